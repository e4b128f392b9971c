-- The reader that holds the slice reads what the cursor by value reads. The statement; its proof is in
-- proofs/Theorems.antt.
use Rattle.std.specs.Prelude.{◌≡◌, ℕ, ◌^◌, ◌<◌, List, length}
use Rattle.refusal.specs.Outcome.{ok, then}
use Rattle.encoding.specs.Wire.{varbytes_at, finish_at}
use Rattle.decoder.specs.Held.{whole_varbytes}

-- on lent bytes the whole read is the cursor's `read_varbytes`, whose second test of the length never fails, and then
-- its `finish`
abbrev pub AsTheCursor : Type 0
AsTheCursor = (maximum : ℕ) (s : List ℕ) → length s < 2 ^ 64 → whole_varbytes maximum s ≡ then (varbytes_at maximum s 0) (λ part end. then (finish_at s end) (λ _ at. ok part at))
