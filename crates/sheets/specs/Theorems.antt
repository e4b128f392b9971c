-- What must hold of the definitions, beside the contracts. The proof is in proofs/Items.antt.
use Rattle.std.specs.Prelude.{◌≡◌, ℕ, List}
use Rattle.refusal.specs.Outcome.{ok}
use Rattle.covenants.specs.Covenant.{max_encoded_size, Reading, covenant_at, contents}
use Rattle.sheets.specs.Sheet.{items_from}

-- where a covenant is accepted, the items of the place are that covenant's, all of them
abbrev pub ItemsAreRead : Type 0
ItemsAreRead = (s : List ℕ) (at : ℕ) (c : Reading) (end : ℕ) → covenant_at max_encoded_size s at ≡ ok c end → items_from s at ≡ contents s c.items
