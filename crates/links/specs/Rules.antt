-- The link rules: document 01, "Link rules", on lists of inputs, outputs and coins. Nothing here knows of sheets.
use Rattle.std.specs.Prelude.{ℕ, suc, ◌+◌, Bool, true, false, List, [], ◌∷◌, length, leb, eqb}
use Rattle.std.proofs.Math.Option.{Option, some, none}
use Rattle.words.specs.Buffers.{pick}
use Rattle.primitives.specs.declared.Outpoint.{Outpoint}
use Rattle.primitives.specs.Outpoints.{same_outpoint, is_null}
use Rattle.covenants.specs.Kind.{None, Claim, Open, Bid, Reveal, Redeem, Register, Update, Renew, Transfer, Finalize, Revoke, is_name, is_linked}
use Rattle.sheets.specs.Sheet.{Output, Coin}
use Rattle.checks.specs.Checks.{Step, passes, breaks, and_then, check, same_address, name_and_start, opened, destined}
use Rattle.links.specs.declared.rows.TableRow.{TableRow}

abbrev pub one_of : ℕ → List ℕ → Bool
one_of k [] = false
one_of k (x ∷ xs) = pick (eqb k x) true (one_of k xs)

-- ---- the rows of the table: the input's number, what is spent, what its partner creates

-- 14 {input, from, to}
abbrev pub transition : Bool → ℕ → Output → Output → Step
transition right i spent made = check right 14 (i ∷ spent.kind ∷ made.kind ∷ [])

-- Bid, its end: "created item 2, spent item 3, 32 bytes (15); commitment (18); output above coin (19)"
unfoldable pub committed : ℕ → Output → Output → Step
committed i spent made = and_then (opened i spent made) (check (leb made.value spent.value) 19 (i ∷ []))

-- Bid: "Reveal (14); name and start; .."
unfoldable pub bid_rule : ℕ → Output → Output → Step
bid_rule i spent made =
    and_then (transition (eqb made.kind Reveal) i spent made)
    (and_then (name_and_start i spent.items made.items) (committed i spent made))

-- Claim, Reveal: "Register: name and start, address (21). Redeem: name and start, then 20 if Claim. Else 14"
unfoldable pub reveal_rule : ℕ → Output → Output → Step
reveal_rule i spent made =
    pick (eqb made.kind Register) (and_then (name_and_start i spent.items made.items) (check (same_address spent.address made.address) 21 (i ∷ [])))
    (pick (eqb made.kind Redeem) (and_then (name_and_start i spent.items made.items) (pick (eqb spent.kind Claim) (breaks 20 (i ∷ [])) (passes true)))
    (transition false i spent made))

-- Register, Update, Renew, Finalize: "equal value (22); address (21); Update, Renew, Transfer or Revoke, else 14; name
-- and start"
unfoldable pub owned_rule : ℕ → Output → Output → Step
owned_rule i spent made =
    and_then (check (eqb made.value spent.value) 22 (i ∷ []))
    (and_then (check (same_address spent.address made.address) 21 (i ∷ []))
    (and_then (transition (one_of made.kind (Update ∷ Renew ∷ Transfer ∷ Revoke ∷ [])) i spent made)
    (name_and_start i spent.items made.items)))

-- Transfer: "equal value (22); Update, Renew or Revoke: name and start, address (21). Finalize: name and start, .. Else
-- 14"
unfoldable pub transfer_rule : ℕ → Output → Output → Step
transfer_rule i spent made =
    and_then (check (eqb made.value spent.value) 22 (i ∷ []))
    (pick (one_of made.kind (Update ∷ Renew ∷ Revoke ∷ [])) (and_then (name_and_start i spent.items made.items) (check (same_address spent.address made.address) 21 (i ∷ [])))
    (pick (eqb made.kind Finalize) (and_then (name_and_start i spent.items made.items) (destined i spent made))
    (transition false i spent made)))

-- None, Open, Redeem: "no partner passes; partner None, Open or Bid, else 14"; no output is linked
unfoldable pub free_rule : ℕ → Output → Option Output → Step
free_rule i spent none = passes false
free_rule i spent (some made) = and_then (transition (one_of made.kind (None ∷ Open ∷ Bid ∷ [])) i spent made) (passes false)

-- 12 to 255: "partner of kind 1 to 11: 25; else passes"
unfoldable pub unknown_rule : ℕ → Option Output → Step
unknown_rule i none = passes false
unknown_rule i (some made) = pick (is_name made.kind) (breaks 25 (i ∷ made.kind ∷ [])) (passes false)

-- "partner (13)", and then the rest of its row
abbrev pub paired : ℕ → Output → Option Output → (Output → Step) → Step
paired i spent none row = breaks 13 (i ∷ spent.kind ∷ [])
paired i spent (some made) row = row made

-- the table's first column, "Spent": the row (`TableRow` of src/rows.rt) of a spent kind
abbrev pub row_of : ℕ → TableRow
row_of kind =
    pick (one_of kind (None ∷ Open ∷ Redeem ∷ [])) TableRow.Free
    (pick (eqb kind Bid) TableRow.Bid
    (pick (one_of kind (Claim ∷ Reveal ∷ [])) TableRow.Reveal
    (pick (one_of kind (Register ∷ Update ∷ Renew ∷ Finalize ∷ [])) TableRow.Owned
    (pick (eqb kind Transfer) TableRow.Transfer
    (pick (eqb kind Revoke) TableRow.Revoke
    TableRow.Unknown)))))

-- its second column, "In this order": what a row asks; Revoke: "24"
abbrev pub row_rule : TableRow → ℕ → Output → Option Output → Step
row_rule TableRow.Free i spent partner = free_rule i spent partner
row_rule TableRow.Bid i spent partner = paired i spent partner (bid_rule i spent)
row_rule TableRow.Reveal i spent partner = paired i spent partner (reveal_rule i spent)
row_rule TableRow.Owned i spent partner = paired i spent partner (owned_rule i spent)
row_rule TableRow.Transfer i spent partner = paired i spent partner (transfer_rule i spent)
row_rule TableRow.Revoke i spent partner = breaks 24 (i ∷ [])
row_rule TableRow.Unknown i spent partner = unknown_rule i partner

-- the table
unfoldable pub rule : ℕ → Output → Option Output → Step
rule i spent partner = row_rule (row_of spent.kind) i spent partner

-- ---- the whole

pub data Verdict : Type 0 where
  linked : ℕ → ℕ → ℕ → Verdict  -- "Summary: inputs; partners accepted in rows Bid to Transfer; spent kinds 1 to 11"
  broken : ℕ → List ℕ → Verdict
  differs : ℕ → Outpoint → Outpoint → Verdict  -- 12: the input, and both outpoints

abbrev pub one : Bool → ℕ
one true = 1
one false = 0

abbrev pub onward : Step → (Bool → Verdict) → Verdict
onward (passes n) next = next n
onward (breaks k vs) next = broken k vs

-- "The partner is the output of the same index": the first of the outputs from that index on
abbrev pub partner_in : List Output → Option Output
partner_in [] = none
partner_in (made ∷ later) = some made

abbrev pub others : List Output → List Output
others [] = []
others (made ∷ later) = later

-- "Then outputs past the inputs: kinds 4 to 11 give 26; Claim passes"
unfoldable pub unpaired : ℕ → Verdict → List Output → Verdict
unpaired at verdict [] = verdict
unpaired at verdict (made ∷ rest) = pick (is_linked made.kind) (broken 26 (at ∷ made.kind ∷ [])) (unpaired (suc at) verdict rest)

-- what judges one input: the table above, or another that says the same
abbrev pub Rule : Type 0
Rule = ℕ → Output → Option Output → Step

-- "Inputs in order, each fully before the next": from the i-th on, with their coins and the outputs from the i-th on;
-- so many outputs were linked and so many names spent before. "First the outpoint (12)". There are as many coins as
-- inputs (11), so that the second case is never reached
unfoldable pub links_from : Rule → ℕ → ℕ → ℕ → List Outpoint → List Coin → List Output → Verdict
links_from judge i outs names [] coins outputs = unpaired i (linked i outs names) outputs
links_from judge i outs names (x ∷ xs) [] outputs = unpaired i (linked i outs names) outputs
links_from judge i outs names (x ∷ xs) (c ∷ cs) outputs =
    pick (same_outpoint x c.outpoint)
    (onward (judge i c.output (partner_in outputs)) (λ n. links_from judge (suc i) (outs + one n) (names + one (is_name c.output.kind)) xs cs (others outputs)))
    (differs i x c.outpoint)

-- "Coinbase (first input null): 10"
unfoldable pub coinbase : List Outpoint → Bool
coinbase [] = false
coinbase (x ∷ xs) = is_null x

-- "Counts: 11"
unfoldable pub links_of : Rule → List Outpoint → List Output → List Coin → Verdict
links_of judge inputs outputs coins =
    pick (coinbase inputs) (broken 10 [])
    (pick (eqb (length inputs) (length coins)) (links_from judge 0 0 0 inputs coins outputs)
    (broken 11 (length inputs ∷ length coins ∷ [])))
