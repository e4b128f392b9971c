-- The pair of sheets on which src/viewer.rt runs the item viewer.
use Rattle.std.specs.Prelude.{ℕ, List, [], ◌∷◌, ◌++◌, replicate}

-- one input, all zeros, and one output: value 0, no address hash, an Open with the items `ab` and an empty one
abbrev pub viewed_transaction : List ℕ
viewed_transaction = 0x10 ∷ 1 ∷ 0 ∷ 0x40 ∷ (replicate 46 0 ++ (2 ∷ 2 ∷ 2 ∷ 0x61 ∷ 0x62 ∷ 0 ∷ []))

-- one coin, all zeros before its covenant, a Register with an empty item and `xyz`
abbrev pub viewed_coins : List ℕ
viewed_coins = 0x14 ∷ 1 ∷ 0 ∷ 0 ∷ (replicate 46 0 ++ (6 ∷ 2 ∷ 0 ∷ 3 ∷ 0x78 ∷ 0x79 ∷ 0x7a ∷ []))
