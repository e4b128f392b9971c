-- Document 01's sample lines that are run and compared: what src/lines.rt runs them on. The sheets of its last line are
-- those of links/specs/Samples.antt.
use Rattle.std.specs.Prelude.{ℕ, List, ◌∷◌, ◌++◌, replicate}

-- "Three items of 1,000,000, 0, 0 fill 1,000,009; a fourth empty item is 5": the directory; each item starts at the
-- source's first byte
abbrev pub sample_starts : List ℕ
sample_starts = replicate 1000 0

abbrev pub sample_lengths : List ℕ
sample_lengths = 1000000 ∷ replicate 999 0

-- "Height 1 with an empty name": lengths of name and resource, the height, and all else zero
abbrev pub height_one : List ℕ
height_one = replicate 3 0 ++ (1 ∷ replicate 9 0)
