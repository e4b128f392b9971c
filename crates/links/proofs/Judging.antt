-- A value above another, as the code compares them.
use mathlib.Core.Path.{◌≡◌}
use Prim.Native.Nat.{ℕ}
use native.Mathlib.Omega.{arith}
use mathlib.Core.Bool.{true, false}
use lib.Dec.{leb}
use Rattle.std.specs.Ordering.{nat_cmp, is_lt}
use Rattle.std.proofs.lemmas.Grind.{common_steps}
use Rattle.std.proofs.lemmas.Bool.Decides.{nat_tests}

pub above : (a b : ℕ) → is_lt (nat_cmp a b) ≡ true → leb b a ≡ false
above a b e = grind (arith, common_steps, nat_tests)

pub not_above : (a b : ℕ) → is_lt (nat_cmp a b) ≡ false → leb b a ≡ true
not_above a b e = grind (arith, common_steps, nat_tests)
