-- The item viewer: "takes both sheets, a side (0 or 1), a record (an output on side 0, a coin on side 1) and an item
-- number, and hands back the bytes inside the sheet of that side. A separate yes or no tells whether the item exists,
-- no also for another side or if either sheet is refused; on no, the part is the empty start of the transaction sheet"
-- (document 01, "Sheets and reports").
use Rattle.std.specs.Prelude.{ℕ, zero, suc, ◌+◌, Bool, true, false, List, [], ◌∷◌, map, eqb}
use Rattle.std.proofs.Math.Option.{Option, some, none}
use Rattle.words.specs.Buffers.{pick}
use Rattle.refusal.specs.Outcome.{Outcome, ok, err}
use Rattle.primitives.specs.declared.Outpoint.{Outpoint}
use Rattle.covenants.specs.Covenant.{max_encoded_size, Reading, covenant_at, bytes_in}
use Rattle.covenants.specs.Items.{nth}
use Rattle.sheets.specs.declared.Place.{Place}
use Rattle.sheets.specs.Sheet.{transaction_at, coins_at}

-- where an item stands: in which sheet, from where on, how long
pub data View : Type 0 where
  in_transaction : ℕ → ℕ → View
  in_coins : ℕ → ℕ → View
  nowhere : View

-- the record of a list of places
abbrev pub record_of : List Place → ℕ → Option Place
record_of [] k = none
record_of (p ∷ ps) zero = some p
record_of (p ∷ ps) (suc k) = record_of ps k

-- the item of a place's covenant
abbrev pub item_in : Outcome Reading → ℕ → Option (ℕ × ℕ)
item_in (ok c next) k = nth c.items k
item_in (err n vs p) k = none

abbrev pub item_of_place : List ℕ → Option Place → ℕ → Option (ℕ × ℕ)
item_of_place s none k = none
item_of_place s (some p) k = item_in (covenant_at max_encoded_size s p.covenant) k

abbrev pub viewed : (ℕ → ℕ → View) → Option (ℕ × ℕ) → View
viewed in-sheet none = nowhere
viewed in-sheet (some part) = in-sheet part.0 part.1

-- both sheets are read whole, and then the record's item
abbrev pub view_in : List ℕ → List ℕ → ℕ → ℕ → ℕ → Outcome (List Outpoint × List Place) → Outcome (List (Outpoint × Place)) → View
view_in tx coins side index item (ok t end) (ok cs end') =
    pick (eqb side 0) (viewed in_transaction (item_of_place tx (record_of t.1 index) item))
    (pick (eqb side 1) (viewed in_coins (item_of_place coins (record_of (map (λ (c : Outpoint × Place). c.1) cs) index) item)) nowhere)
view_in tx coins side index item (ok t end) (err k vs p) = nowhere
view_in tx coins side index item (err k vs p) o = nowhere

unfoldable pub view_of : List ℕ → List ℕ → ℕ → ℕ → ℕ → View
view_of tx coins side index item = view_in tx coins side index item (transaction_at tx) (coins_at coins)

-- what is handed back: the bytes, where they lie (the block and the offset of a reference), and the yes or no
abbrev pub view_bytes : List ℕ → List ℕ → View → List ℕ
view_bytes tx coins (in_transaction start len) = bytes_in tx (start, len)
view_bytes tx coins (in_coins start len) = bytes_in coins (start, len)
view_bytes tx coins nowhere = []

abbrev pub view_place : ℕ × ℕ → ℕ × ℕ → View → ℕ × ℕ
view_place tx coins (in_transaction start len) = (tx.0, start + tx.1)
view_place tx coins (in_coins start len) = (coins.0, start + coins.1)
view_place tx coins nowhere = tx

abbrev pub exists : View → Bool
exists (in_transaction start len) = true
exists (in_coins start len) = true
exists nowhere = false
