-- One write after another, as one write of both.
use mathlib.Core.Path.{◌≡◌, ap, ◌∙◌}
use Prim.Native.Nat.{ℕ, ◌+◌, ◌≤◌}
use native.Mathlib.Omega.{arith}
use mathlib.Core.List.{List, [], ◌++◌, append-nil}
use lib.ListN.{length, take, drop, length-append, take-append-drop}
use Rattle.words.specs.Buffers.{over, laid}
use Rattle.words.proofs.Over.{over-append, laid-over}

-- bs was laid over d from at on, and ends at end
pub record Laid (d : List ℕ) (at : ℕ) (bs : List ℕ) (d' : List ℕ) (end : ℕ) : Type 0 where
  pub ends : end ≡ at + length bs
  pub holds : d' ≡ over at bs d

pub over_nothing : (at : ℕ) (d : List ℕ) → over at [] d ≡ d
unfolding over
over_nothing at d =
    let e : at + 0 ≡ at = omega arith in
    ap (λ n. take at d ++ [] ++ drop n d) e ∙ ap (λ xs. xs ++ drop at d) (append-nil (take at d)) ∙ take-append-drop at d

pub both : {d d₁ d₂ : List ℕ} {at p q : ℕ} {xs ys : List ℕ} → at + length (xs ++ ys) ≤ length d → Laid d at xs d₁ p → Laid d₁ p ys d₂ q → Laid d at (xs ++ ys) d₂ q
both {d} {d₁} {d₂} {at} {p} {q} {xs} {ys} room a b =
    let long = length-append xs ys in
    record {
      ends = b.ends ∙ omega (arith, a.ends, long);
      holds = b.holds ∙ ap (λ n. over n ys d₁) a.ends ∙ ap (over (at + length xs) ys) a.holds ∙ over-append at xs ys d (omega (arith, long));
    }

-- n bytes that were asked to be laid where there is room for them
pub laid-there : (d : List ℕ) (at : ℕ) (bs : List ℕ) (n : ℕ) {end : ℕ} {d' : List ℕ} → length bs ≡ n → at + n ≤ length d → end ≡ at + n → d' ≡ laid at bs d → Laid d at bs d' end
laid-there d at bs n l h p e = record { ends = omega (arith, l, p); holds = e ∙ laid-over at bs d n l h }

-- one write after another, where the end of both is within the bytes
pub and_then : {d d₁ d₂ : List ℕ} {at p q : ℕ} {xs ys : List ℕ} → Laid d at xs d₁ p → Laid d₁ p ys d₂ q → q ≤ length d → Laid d at (xs ++ ys) d₂ q
and_then {xs = xs} {ys = ys} a b h = both (omega (arith, length-append xs ys, a.ends, b.ends, h)) a b
