-- Lent bytes that are written to: all of what was asked for, or nothing.
use Rattle.std.specs.Prelude.{ℕ, ◌+◌, ◌-◌, Bool, true, false, List, ◌++◌, length, take, drop, replicate, leb}

-- the first where the test holds, else the second
abbrev pub pick {ℓ} : {X : Type ℓ} → Bool → X → X → X
pick true a b = a
pick false a b = b

-- d with bs from at on
unfoldable pub over : ℕ → List ℕ → List ℕ → List ℕ
over at bs d = take at d ++ bs ++ drop (at + length bs) d

-- there is room for bs from at on
unfoldable pub fits : ℕ → List ℕ → List ℕ → Bool
fits at bs d = leb (at + length bs) (length d)

-- d after bs was asked to be laid from at on: where there is no room, nothing is touched
unfoldable pub laid : ℕ → List ℕ → List ℕ → List ℕ
unfolding over fits
laid at bs d = pick (fits at bs d) (over at bs d) d

-- an array of n numbers that holds xs, zeros past them
unfoldable pub zero_padded : ℕ → List ℕ → List ℕ
zero_padded n xs = xs ++ replicate (n - length xs) 0
