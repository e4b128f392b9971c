-- The digits of a number, as the library prints them, and how many there are.
use mathlib.Core.Path.{◌≡◌, ap, ◌∙◌}
use Prim.Native.Nat.{ℕ, zero, suc, ◌+◌, ◌/◌, ◌%◌, ◌^◌, ◌≤◌, ◌<◌}
use native.Mathlib.Omega.{arith}
use native.Mathlib.Nat.{pow-suc, div-lt_iff_lt-mul}
use mathlib.Core.List.{List, [], ◌∷◌, ◌++◌}
use mathlib.Core.Bool.{Bool, true, false}
use lib.ListN.{length, length-append}
use lib.Dec.{ltb}
use Rattle.std.specs.Fmt.{decimal as printed}
use Rattle.std.proofs.lemmas.Fmt.{decimal_digit, decimal_step}
use Rattle.words.specs.Buffers.{pick}
use Rattle.words.proofs.Cases.{by_order}
use borrow.Author.Tests.{le-ltb, lt-ltb}
use Rattle.texts.specs.Text.{digits, decimal}

-- a number of at most k digits
as-printed : (k n : ℕ) → n < 10 ^ k → n < 2 ^ 64 → 1 ≤ k → printed n ≡ digits k n
unfolding digits
as-printed zero n h w l = absurd (omega arith)
as-printed (suc k) n h w l =
    by_order n 10
    (λ low. decimal_digit n low ∙ simp (lt-ltb n 10 low))
    (λ high.
    let few : n / 10 < 10 ^ k = (div-lt_iff_lt-mul {k = 10} {x = n} {y = 10 ^ k} (omega arith)).1 (omega (arith, pow-suc 10 k)) in
    let more : 1 ≤ k = elim k as (λ j. n < 10 ^ suc j → 1 ≤ j) [ zero ↦ λ g. absurd (omega arith) | suc j ↦ λ g. omega arith ] h in
    decimal_step n high w
    ∙ ap (λ (l : List ℕ). l ++ ((48 + n % 10) ∷ [])) (as-printed k (n / 10) few (omega arith) more)
    ∙ simp (le-ltb n 10 high))

pub decimal-printed : (n : ℕ) → n < 2 ^ 64 → printed n ≡ decimal n
unfolding decimal
decimal-printed n h = as-printed 20 n (omega arith) h (omega arith)

-- so many digits at most
digits_long : (k n : ℕ) → length (digits k n) ≤ k
unfolding digits
digits_long zero n = omega arith
digits_long (suc k) n = go (ltb n 10) (digits_long k (n / 10))
  where
    go : (b : Bool) → length (digits k (n / 10)) ≤ k → length (pick b ((48 + n) ∷ []) (digits k (n / 10) ++ ((48 + n % 10) ∷ []))) ≤ suc k
    go true h = omega arith
    go false h = omega (arith, length-append (digits k (n / 10)) ((48 + n % 10) ∷ []), h)

pub decimal-long : (n : ℕ) → length (decimal n) ≤ 20
unfolding decimal
decimal-long n = digits_long 20 n
