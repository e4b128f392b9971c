-- What is shown of states. The statements; their proofs are in proofs/Theorems.antt.
use Rattle.std.specs.Prelude.{◌≡◌, ◌≤◌, true, length}
use Rattle.names.specs.Name.{max_name_size}
use Rattle.name_state.specs.State.{State, max_resource_size, same_state}
use Rattle.name_state.specs.Paper.{state_of, stored}

-- `same` says true of equal states alone
abbrev pub SameIsEqual : Type 0
SameIsEqual = (t u : State) → (same_state t u ≡ true → t ≡ u) × (t ≡ u → same_state t u ≡ true)

-- what is made of a state that fits its arrays holds that state
abbrev pub StoredHolds : Type 0
StoredHolds = (t : State) → length t.name ≤ max_name_size → length t.resource ≤ max_resource_size → state_of (stored t) ≡ t
