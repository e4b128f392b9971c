-- The cases of `slice_at`, each as an equation under the facts that lead to it.
use mathlib.Core.Path.{◌≡◌, ap, sym}
use Prim.Native.Nat.{ℕ, ◌+◌, ◌-◌, ◌^◌, ◌≤◌, ◌<◌}
use native.Mathlib.Omega.{arith}
use mathlib.Core.List.{List, [], ◌∷◌}
use lib.ListN.{length}
use borrow.Author.Tests.{le-ltb, lt-ltb}
use Rattle.words.proofs.Cases.{by_order}
use Rattle.refusal.proofs.Outcomes.{never}
use Rattle.refusal.specs.Outcome.{ok, err}
use Rattle.encoding.specs.Wire.{slice_at}

module _ (n : ℕ) (s : List ℕ) (at : ℕ) where
  pub beyond : length s < at → slice_at n s at ≡ err 1 (at ∷ (at - length s) ∷ []) at
  unfolding slice_at
  beyond h = simp (lt-ltb _ _ h)

  pub within : at + n < 2 ^ 64 → at + n ≤ length s → slice_at n s at ≡ ok (at, n) (at + n)
  unfolding slice_at
  within b h =
      simp (le-ltb (length s) at (omega arith), le-ltb 18446744073709551615 (at + n) (omega arith), le-ltb (length s) (at + n) h)

  pub cut : {m : ℕ} → at ≤ length s → 0 < m → at + n ≡ m + length s → at + n < 2 ^ 64 → slice_at n s at ≡ err 1 (at ∷ m ∷ []) at
  unfolding slice_at
  cut {m} a h e b =
      let d : at + n - length s ≡ m = omega arith in
      simp (le-ltb (length s) at a, le-ltb 18446744073709551615 (at + n) (omega arith), lt-ltb (length s) (at + n) (omega arith), d)

  pub past : at ≤ length s → 2 ^ 64 ≤ at + n → slice_at n s at ≡ err 2 (18446744073709551615 ∷ (length s - at) ∷ []) at
  unfolding slice_at
  past a b = simp (le-ltb (length s) at a, lt-ltb 18446744073709551615 (at + n) (omega arith))

-- what a part that was read is
pub record Part (n : ℕ) (s : List ℕ) (at : ℕ) (part : ℕ × ℕ) (next : ℕ) : Type 0 where
  pub start : part.0 ≡ at
  pub size : part.1 ≡ n
  pub ends : next ≡ at + n
  pub fits : at + n ≤ length s

pub read : (n : ℕ) (s : List ℕ) (at : ℕ) {part : ℕ × ℕ} {next : ℕ} → length s < 2 ^ 64 → slice_at n s at ≡ ok part next → Part n s at part next
read n s at {part} {next} big e =
    by_order (length s) at (λ h. absurd (never e (beyond n s at h)))
    (λ a. by_order (length s) (at + n)
    (λ h. by_order (at + n) (2 ^ 64)
    (λ b. absurd (never e (cut n s at {m = at + n - length s} a (omega arith) (omega arith) b)))
    (λ b. absurd (never e (past n s at a b))))
    (λ h.
    let k = within n s at (omega arith) h in
    let same : (at, n) ≡ part = cc in
    record { start = ap (λ (x : ℕ × ℕ). x.0) (sym same); size = ap (λ (x : ℕ × ℕ). x.1) (sym same); ends = cc; fits = h }))
