-- Words of the private functions and of their proofs, and of those of links, which compares items 0 and 1 in its own
-- walk; no outsider reads them.
use Rattle.std.specs.Prelude.{◌≡◌, ℕ, zero, suc, ◌+◌, ◌≤◌, List, [], true, length, get_or, Option, Some, None}
use Rattle.covenants.specs.Covenant.{bytes_in}
use Rattle.sheets.specs.Sheet.{items_from}
use Rattle.checks.specs.Checks.{Step, passes, agree, name_and_start}

-- what the place of an item of a width says of that item
abbrev pub Sizes : List ℕ → ℕ → ℕ → ℕ → Option ℕ → Type 0
Sizes s at k width (Some start) = (start + width ≤ length s) × (get_or (items_from s at) k [] ≡ bytes_in s (start, width))
Sizes s at k width None = length (get_or (items_from s at) k []) ≡ width → ⊥

-- name and start: what the items from the k-th on have to say
abbrev pub Left : ℕ → List (List ℕ) → List (List ℕ) → ℕ → Step
Left i xs ys zero = name_and_start i xs ys
Left i xs ys (suc zero) = agree i 1 4 3 17 xs ys
Left i xs ys (suc (suc k)) = passes true
