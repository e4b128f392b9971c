-- Two results that meet a contract coincide, for each public function.
use mathlib.Core.Path.{◌≡◌}
use Prim.Native.Nat.{ℕ}
use mathlib.Core.Bool.{Bool}
use mathlib.Core.List.{List}
use lib.Dec.{eqb}
use Rattle.std.specs.Prelude.{Result}
use Rattle.words.specs.Buffers.{pick}
use Rattle.words.proofs.One.{one}
use Rattle.refusal.specs.declared.Refusal.{Refusal}
use Rattle.sheets.specs.Sheet.{address_at, output_of}
use Rattle.sheets.specs.declared.Address.{Address}
use Rattle.sheets.specs.declared.Place.{Place}
use Rattle.checks.specs.Checks.{same_address, name_and_start, opened, destined}
use Rattle.checks.specs.Items.{items_at, items_pair}
use Rattle.checks.specs.Paper.{step_paper}
use Rattle.checks.specs.declared.Items.{Items}
use Rattle.checks.specs.declared.Pair.{Pair}
use Rattle.checks.proofs.Same.{step_same}

pub items-at-one : (s : List ℕ) (covenant : ℕ) {r r' : Items} → r ≡ items_at s covenant → r' ≡ items_at s covenant → r ≡ r'
items-at-one s covenant = one

pub pair-of-one : (spent made : Items) (k : ℕ) {r r' : Result Pair ℕ} → r ≡ items_pair spent made k → r' ≡ items_pair spent made k → r ≡ r'
pair-of-one spent made k = one

pub unequal-one : (input k : ℕ) {r r' : Refusal} → r ≡ pick (eqb k 0) (Refusal.NameHashMismatch input) (Refusal.StartHeightMismatch input)
    → r' ≡ pick (eqb k 0) (Refusal.NameHashMismatch input) (Refusal.StartHeightMismatch input) → r ≡ r'
unequal-one input k = one

pub name-and-start-one : (tx coins : List ℕ) (input : ℕ) (spent made : Place) {r r' : Result Bool Refusal} → step_paper r ≡ name_and_start input (output_of coins spent).items (output_of tx made).items
    → step_paper r' ≡ name_and_start input (output_of coins spent).items (output_of tx made).items → r ≡ r'
name-and-start-one tx coins input spent made e f = step_same (one e f)

pub same-address-one : (s : List ℕ) (a : Address) (t : List ℕ) (b : Address) {r r' : Bool} → r ≡ same_address (address_at s a) (address_at t b) → r' ≡ same_address (address_at s a) (address_at t b) → r ≡ r'
same-address-one s a t b = one

pub opening-one : (tx coins : List ℕ) (input : ℕ) (spent made : Place) {r r' : Result Bool Refusal} → step_paper r ≡ opened input (output_of coins spent) (output_of tx made)
    → step_paper r' ≡ opened input (output_of coins spent) (output_of tx made) → r ≡ r'
opening-one tx coins input spent made e f = step_same (one e f)

pub destination-one : (tx coins : List ℕ) (input : ℕ) (spent made : Place) {r r' : Result Bool Refusal} → step_paper r ≡ destined input (output_of coins spent) (output_of tx made)
    → step_paper r' ≡ destined input (output_of coins spent) (output_of tx made) → r ≡ r'
destination-one tx coins input spent made e f = step_same (one e f)
