-- Texts that are put one after the other. The statements; their proofs are in proofs/Theorems.antt.
use Rattle.std.specs.Prelude.{◌≡◌, ℕ, ◌+◌, ◌≤◌, ◌<◌, List, ◌++◌, length}
use Rattle.words.specs.Buffers.{laid}
use Rattle.texts.specs.Text.{end_of}

-- they end where both, put at once, would
abbrev pub EndsInARow : Type 0
EndsInARow = (at : ℕ) (xs ys : List ℕ) (n : ℕ) → end_of (end_of at xs n) ys n ≡ end_of at (xs ++ ys) n

-- where both fit, they lie as both would that were put at once
abbrev pub PutsInARow : Type 0
PutsInARow = (at : ℕ) (xs ys d : List ℕ) → at + length (xs ++ ys) ≤ length d → laid (end_of at xs (length d)) ys (laid at xs d) ≡ laid at (xs ++ ys) d

-- where the first does not fit, neither lies there
abbrev pub NothingAfter : Type 0
NothingAfter = (at : ℕ) (xs ys d : List ℕ) → length d < at + length xs → laid (end_of at xs (length d)) ys (laid at xs d) ≡ d
