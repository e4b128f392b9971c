-- A case by an order of two numbers, and a choice of two small ones.
use Prim.Native.Nat.{ℕ, ◌≤◌, ◌<◌}
use mathlib.Core.Bool.{Bool, true, false}
use native.Mathlib.Decide.{dec_lt}
use native.Mathlib.Omega.{arith}
use Rattle.words.specs.Buffers.{pick}

pub by_order {ℓ} : {X : Type ℓ} (a b : ℕ) → (a < b → X) → (b ≤ a → X) → X
by_order a b f g = elim (dec_lt a b) [ yes h ↦ f h | no h ↦ g (omega arith) ]

pub pick_small : (b : Bool) → pick {X = ℕ} b 0 1 ≤ 1
pick_small true = omega arith
pick_small false = omega arith
