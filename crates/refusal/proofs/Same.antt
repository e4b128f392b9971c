-- Two refusals with the same number and the same carried values are the same: what a refusal says can be read back.
use mathlib.Core.Path.{◌≡◌, refl, ap, ap₂, sym, ◌∙◌}
use Prim.Native.Nat.{ℕ}
use mathlib.Core.List.{List}
use lib.ListN.{get_or}
use lib.Dec.{eqb}
use Rattle.words.specs.Buffers.{pick}
use Rattle.refusal.specs.Outcome.{Stand, Outcome, ok, err, Wrote, wrote, refused}
use Rattle.refusal.specs.Paper.{number_of, carried, standing, judgement_paper, put_paper}
use Rattle.refusal.specs.declared.Refusal.{Refusal}
use Rattle.refusal.specs.declared.Stop.{Stop}
use Rattle.std.specs.Prelude.{Result, Ok, Err}

-- what is read back from what f says decides what f was said of
pub one-to-one : {X Y : Type 0} (f : X → Y) (back : Y → X) → ((x : X) → back (f x) ≡ x) → {x x' : X} → f x ≡ f x' → x ≡ x'
one-to-one f back h {x} {x'} e = sym (h x) ∙ ap back e ∙ h x'

-- the refusal with a number of the table and what it carries
abbrev pub refusal : ℕ → List ℕ → Refusal
refusal k vs =
    pick (eqb k 1) (Refusal.UnexpectedEnd (get_or vs 0 0) (get_or vs 1 0))
    (pick (eqb k 2) (Refusal.LengthExceedsBound (get_or vs 0 0) (get_or vs 1 0))
    (pick (eqb k 3) (Refusal.TrailingBytes (get_or vs 0 0))
    (pick (eqb k 4) (Refusal.InvalidValue (get_or vs 0 0))
    (pick (eqb k 5) (Refusal.TooLarge (get_or vs 0 0) (get_or vs 1 0))
    (pick (eqb k 6) Refusal.InvalidName
    (pick (eqb k 7) (Refusal.InvalidNameState (get_or vs 0 0))
    (pick (eqb k 8) Refusal.NonCanonicalNameState
    (pick (eqb k 9) Refusal.NameStateHashMismatch
    (pick (eqb k 10) Refusal.CoinbaseRequiresIssuanceVerifier
    (pick (eqb k 11) (Refusal.InputCountMismatch (get_or vs 0 0) (get_or vs 1 0))
    (pick (eqb k 12) (Refusal.CoinOutpointMismatch (get_or vs 0 0))
    (pick (eqb k 13) (Refusal.MissingLinkedOutput (get_or vs 0 0) (get_or vs 1 0))
    (pick (eqb k 14) (Refusal.InvalidTransition (get_or vs 0 0) (get_or vs 1 0) (get_or vs 2 0))
    (pick (eqb k 15) (Refusal.MalformedCovenant (get_or vs 0 0) (get_or vs 1 0))
    (pick (eqb k 16) (Refusal.NameHashMismatch (get_or vs 0 0))
    (pick (eqb k 17) (Refusal.StartHeightMismatch (get_or vs 0 0))
    (pick (eqb k 18) (Refusal.BlindCommitmentMismatch (get_or vs 0 0))
    (pick (eqb k 19) (Refusal.BidValueInflation (get_or vs 0 0))
    (pick (eqb k 20) (Refusal.ClaimCannotRedeem (get_or vs 0 0))
    (pick (eqb k 21) (Refusal.AddressMismatch (get_or vs 0 0))
    (pick (eqb k 22) (Refusal.LockedValueMismatch (get_or vs 0 0))
    (pick (eqb k 23) (Refusal.TransferDestinationMismatch (get_or vs 0 0))
    (pick (eqb k 24) (Refusal.RevokedCoinSpent (get_or vs 0 0))
    (pick (eqb k 25) (Refusal.UnknownCovenantCreatesName (get_or vs 0 0) (get_or vs 1 0))
    (pick (eqb k 26) (Refusal.UnpairedLinkedOutput (get_or vs 0 0) (get_or vs 1 0))
    (pick (eqb k 27) (Refusal.SheetField (get_or vs 0 0) (get_or vs 1 0))
    (pick (eqb k 28) (Refusal.SheetTooLong (get_or vs 0 0) (get_or vs 1 0))
    (pick (eqb k 29) (Refusal.NoRoom (get_or vs 0 0))
    (Refusal.BadItem (get_or vs 0 0))))))))))))))))))))))))))))))

pub refusal-back : (r : Refusal) → refusal (number_of r) (carried r) ≡ r
refusal-back (Refusal.UnexpectedEnd offset needed) = refl
refusal-back (Refusal.LengthExceedsBound actual maximum) = refl
refusal-back (Refusal.TrailingBytes remaining) = refl
refusal-back (Refusal.InvalidValue width) = refl
refusal-back (Refusal.TooLarge actual maximum) = refl
refusal-back Refusal.InvalidName = refl
refusal-back (Refusal.InvalidNameState reason) = refl
refusal-back Refusal.NonCanonicalNameState = refl
refusal-back Refusal.NameStateHashMismatch = refl
refusal-back Refusal.CoinbaseRequiresIssuanceVerifier = refl
refusal-back (Refusal.InputCountMismatch transaction coins) = refl
refusal-back (Refusal.CoinOutpointMismatch input) = refl
refusal-back (Refusal.MissingLinkedOutput input kind) = refl
refusal-back (Refusal.InvalidTransition input from to) = refl
refusal-back (Refusal.MalformedCovenant input field) = refl
refusal-back (Refusal.NameHashMismatch input) = refl
refusal-back (Refusal.StartHeightMismatch input) = refl
refusal-back (Refusal.BlindCommitmentMismatch input) = refl
refusal-back (Refusal.BidValueInflation input) = refl
refusal-back (Refusal.ClaimCannotRedeem input) = refl
refusal-back (Refusal.AddressMismatch input) = refl
refusal-back (Refusal.LockedValueMismatch input) = refl
refusal-back (Refusal.TransferDestinationMismatch input) = refl
refusal-back (Refusal.RevokedCoinSpent input) = refl
refusal-back (Refusal.UnknownCovenantCreatesName input to) = refl
refusal-back (Refusal.UnpairedLinkedOutput output kind) = refl
refusal-back (Refusal.SheetField side offset) = refl
refusal-back (Refusal.SheetTooLong side length) = refl
refusal-back (Refusal.NoRoom needed) = refl
refusal-back (Refusal.BadItem item) = refl

-- the paper of a refusal, its number and what it carries, is injective
pub refusal-same : {r r' : Refusal} → number_of r ≡ number_of r' → carried r ≡ carried r' → r ≡ r'
refusal-same {r} {r'} n c = sym (refusal-back r) ∙ ap₂ refusal n c ∙ refusal-back r'

abbrev pub stop : ℕ → List ℕ → Stand → Stop
stop k vs p = record { refusal = refusal k vs; position = p }

pub stop-back : (s : Stop) → stop (number_of s.refusal) (carried s.refusal) (standing s) ≡ s
stop-back s = ap (λ r. record { refusal = r; position = s.position }) (refusal-back s.refusal)

judgement-back : Outcome Unit → Result Unit Refusal
judgement-back (ok u p) = Ok u
judgement-back (err k vs p) = Err (refusal k vs)

pub judgement-same : {r r' : Result Unit Refusal} → judgement_paper r ≡ judgement_paper r' → r ≡ r'
unfolding judgement-back
judgement-same = one-to-one judgement_paper judgement-back (elim [ Ok u ↦ refl | Err r ↦ ap Err (refusal-back r) ])

put_back : Wrote → Result ℕ Refusal
put_back (wrote n) = Ok n
put_back (refused k vs) = Err (refusal k vs)

pub put_same : {r r' : Result ℕ Refusal} → put_paper r ≡ put_paper r' → r ≡ r'
unfolding put_back
put_same = one-to-one put_paper put_back (elim [ Ok n ↦ refl | Err r ↦ ap Err (refusal-back r) ])
