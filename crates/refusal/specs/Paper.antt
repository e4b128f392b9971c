-- A refusal in the document's numbers (document 01, "Refusal numbers").
use Rattle.std.specs.Prelude.{ℕ, List, [], ◌∷◌, get_or, Result, Ok, Err}
use Rattle.refusal.specs.Outcome.{Stand, Outcome, ok, err, Wrote, wrote, refused}
use Rattle.refusal.specs.declared.Refusal.{Refusal}
use Rattle.refusal.specs.declared.Stop.{Stop}
use Rattle.refusal.specs.declared.Carried.{Carried}

-- the table's first column
abbrev pub number_of : Refusal → ℕ
number_of (Refusal.UnexpectedEnd offset needed) = 1
number_of (Refusal.LengthExceedsBound actual maximum) = 2
number_of (Refusal.TrailingBytes remaining) = 3
number_of (Refusal.InvalidValue width) = 4
number_of (Refusal.TooLarge actual maximum) = 5
number_of Refusal.InvalidName = 6
number_of (Refusal.InvalidNameState reason) = 7
number_of Refusal.NonCanonicalNameState = 8
number_of Refusal.NameStateHashMismatch = 9
number_of Refusal.CoinbaseRequiresIssuanceVerifier = 10
number_of (Refusal.InputCountMismatch transaction coins) = 11
number_of (Refusal.CoinOutpointMismatch input) = 12
number_of (Refusal.MissingLinkedOutput input kind) = 13
number_of (Refusal.InvalidTransition input from to) = 14
number_of (Refusal.MalformedCovenant input field) = 15
number_of (Refusal.NameHashMismatch input) = 16
number_of (Refusal.StartHeightMismatch input) = 17
number_of (Refusal.BlindCommitmentMismatch input) = 18
number_of (Refusal.BidValueInflation input) = 19
number_of (Refusal.ClaimCannotRedeem input) = 20
number_of (Refusal.AddressMismatch input) = 21
number_of (Refusal.LockedValueMismatch input) = 22
number_of (Refusal.TransferDestinationMismatch input) = 23
number_of (Refusal.RevokedCoinSpent input) = 24
number_of (Refusal.UnknownCovenantCreatesName input to) = 25
number_of (Refusal.UnpairedLinkedOutput output kind) = 26
number_of (Refusal.SheetField side offset) = 27
number_of (Refusal.SheetTooLong side length) = 28
number_of (Refusal.NoRoom needed) = 29
number_of (Refusal.BadItem item) = 30

-- the table's last column
abbrev pub carried : Refusal → List ℕ
carried (Refusal.UnexpectedEnd offset needed) = offset ∷ needed ∷ []
carried (Refusal.LengthExceedsBound actual maximum) = actual ∷ maximum ∷ []
carried (Refusal.TrailingBytes remaining) = remaining ∷ []
carried (Refusal.InvalidValue width) = width ∷ []
carried (Refusal.TooLarge actual maximum) = actual ∷ maximum ∷ []
carried Refusal.InvalidName = []
carried (Refusal.InvalidNameState reason) = reason ∷ []
carried Refusal.NonCanonicalNameState = []
carried Refusal.NameStateHashMismatch = []
carried Refusal.CoinbaseRequiresIssuanceVerifier = []
carried (Refusal.InputCountMismatch transaction coins) = transaction ∷ coins ∷ []
carried (Refusal.CoinOutpointMismatch input) = input ∷ []
carried (Refusal.MissingLinkedOutput input kind) = input ∷ kind ∷ []
carried (Refusal.InvalidTransition input from to) = input ∷ from ∷ to ∷ []
carried (Refusal.MalformedCovenant input field) = input ∷ field ∷ []
carried (Refusal.NameHashMismatch input) = input ∷ []
carried (Refusal.StartHeightMismatch input) = input ∷ []
carried (Refusal.BlindCommitmentMismatch input) = input ∷ []
carried (Refusal.BidValueInflation input) = input ∷ []
carried (Refusal.ClaimCannotRedeem input) = input ∷ []
carried (Refusal.AddressMismatch input) = input ∷ []
carried (Refusal.LockedValueMismatch input) = input ∷ []
carried (Refusal.TransferDestinationMismatch input) = input ∷ []
carried (Refusal.RevokedCoinSpent input) = input ∷ []
carried (Refusal.UnknownCovenantCreatesName input to) = input ∷ to ∷ []
carried (Refusal.UnpairedLinkedOutput output kind) = output ∷ kind ∷ []
carried (Refusal.SheetField side offset) = side ∷ offset ∷ []
carried (Refusal.SheetTooLong side length) = side ∷ length ∷ []
carried (Refusal.NoRoom needed) = needed ∷ []
carried (Refusal.BadItem item) = item ∷ []

-- up to three of what is carried; "Unused parts of an answer are zeros"
abbrev pub shown_carried : List ℕ → Carried
shown_carried vs = record { first = get_or vs 0 0; second = get_or vs 1 0; third = get_or vs 2 0 }

-- where a stopped read stands
abbrev pub standing : Stop → Stand
standing s = s.position

-- a stopped read, as the outcome of reading anything
abbrev pub stop_paper : {A : Type 0} → Stop → Outcome A
stop_paper s = err (number_of s.refusal) (carried s.refusal) (standing s)

-- whether a thing that is not read passes, or why not: nothing is read, so the place is 0
abbrev pub judgement_paper : Result Unit Refusal → Outcome Unit
judgement_paper (Ok u) = ok u 0
judgement_paper (Err r) = err (number_of r) (carried r) 0

-- a write, as how many bytes were written, or why none was
abbrev pub put_paper : Result ℕ Refusal → Wrote
put_paper (Ok n) = wrote n
put_paper (Err r) = refused (number_of r) (carried r)
