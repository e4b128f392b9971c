-- What is writable passes the checks of the writer; and what was read is writable, and stands in its directory.
use mathlib.Core.Path.{◌≡◌, refl, ap, ◌∙◌}
use Prim.Native.Nat.{ℕ, zero, suc, ◌+◌, ◌-◌, ◌^◌, ◌≤◌, ◌<◌}
use native.Mathlib.Omega.{arith}
use mathlib.Core.List.{List, [], ◌∷◌, ◌++◌}
use mathlib.Core.Bool.{Bool, true, false}
use lib.ListN.{length, get_or, replicate}
use borrow.Author.Tests.{le-ltb}
use Rattle.words.proofs.Le.{part-long}
use Rattle.words.specs.Buffers.{pick, fits, zero_padded}
use Rattle.refusal.specs.Outcome.{ok, many_at, wrote, refused}
use Rattle.refusal.proofs.Outcomes.{never_both}
use Rattle.refusal.proofs.Many.{many-next}
use Rattle.encoding.specs.Wire.{compact_size, put_answer}
use Rattle.encoding.proofs.Fixed.{most-moves}
use Rattle.covenants.specs.Covenant.{item_at, bytes_in, contents}
use Rattle.covenants.specs.Written.{items_size, parts, Held, held_from, size_from}
use Rattle.covenants.specs.Theorems.{Short}
use Rattle.covenants.specs.Paper.{listed}
use Rattle.covenants.specs.Workers.{starts_of, lens_of}
use Rattle.covenants.proofs.Moves.{item-read}

-- ---- the checks pass

-- items that lie within the source are held
pub held-passes : (size i : ℕ) (ps : List (ℕ × ℕ)) → Held size ps → held_from size i ps ≡ wrote 0
unfolding held_from
held-passes size i [] h = refl
held-passes size i (p ∷ ps) h = rw (le-ltb size (p.0 + p.1) h.0) (held-passes size (suc i) ps h.1)

-- items that are short, and no more of them than may be written, have the size that they take
pub sizes-pass : (source : List ℕ) (used : ℕ) (ps : List (ℕ × ℕ)) → Held (length source) ps → Short (contents source ps) → used + items_size (contents source ps) ≤ 1000009
    → size_from used ps ≡ wrote (used + items_size (contents source ps))
unfolding size_from items_size
sizes-pass source used [] h short most = ap wrote (omega arith)
sizes-pass source used (p ∷ ps) h short most =
    let x : ℕ = p.1 in
    let long : length (bytes_in source p) ≡ x = part-long source p.0 x h.0 in
    let rest : ℕ = items_size (contents source ps) in
    let room : used + (compact_size x + x + rest) ≤ 1000009 = rw long at most in
    let ih = sizes-pass source (used + compact_size x + x) ps h.1 short.1 (omega arith) in
    let sum : used + compact_size x + x + rest ≡ used + (compact_size x + x + rest) = omega arith in
    rw (long, le-ltb 1000000 x (rw long at short.0), le-ltb 1000009 (used + compact_size x + x) (omega arith)) (ih ∙ ap wrote sum)

-- what was written is as long as the answer says
pub written-long : (at : ℕ) (bs d : List ℕ) {m : ℕ} → put_answer at bs d ≡ wrote m → length bs ≡ m
unfolding put_answer
written-long at bs d {m} = go (fits at bs d)
  where
    go : (b : Bool) → pick b (wrote (length bs)) (refused 29 (length bs ∷ [])) ≡ wrote m → length bs ≡ m
    go true e = cc
    go false e = absurd (never_both e refl)

-- ---- the directory of places holds those places

parts-later : (a b : ℕ) (firsts sizes : List ℕ) (i n : ℕ) → parts (a ∷ firsts) (b ∷ sizes) (suc i) n ≡ parts firsts sizes i n
unfolding parts
parts-later a b firsts sizes i zero = refl
parts-later a b firsts sizes i (suc n) = ap (λ ps. (get_or firsts i 0, get_or sizes i 0) ∷ ps) (parts-later a b firsts sizes (suc i) n)

parts_first : (xs : List (ℕ × ℕ)) (firsts sizes : List ℕ) → parts (starts_of xs ++ firsts) (lens_of xs ++ sizes) 0 (length xs) ≡ xs
unfolding parts
parts_first [] firsts sizes = refl
parts_first (x ∷ xs) firsts sizes = ap (λ ps. x ∷ ps) (parts-later x.0 x.1 (starts_of xs ++ firsts) (lens_of xs ++ sizes) 0 (length xs) ∙ parts_first xs firsts sizes)

pub parts-listed : (xs : List (ℕ × ℕ)) → parts (listed (starts_of xs)) (listed (lens_of xs)) 0 (length xs) ≡ xs
unfolding zero_padded
parts-listed xs = parts_first xs (replicate (1000 - length (starts_of xs)) 0) (replicate (1000 - length (lens_of xs)) 0)

-- ---- items that were read lie within, are short, and stay within the allowance

pub record Lie (allowance start : ℕ) (s : List ℕ) (at : ℕ) (xs : List (ℕ × ℕ)) (end : ℕ) : Type 0 where
  pub held : Held (length s) xs
  pub short : Short (contents s xs)
  pub spent : start ≤ at → at - start ≤ allowance → end - start ≤ allowance

pub items_lie : (allowance start : ℕ) (s : List ℕ) → length s < 2 ^ 64 → (n at : ℕ) {xs : List (ℕ × ℕ)} {end : ℕ} → many_at (item_at allowance start s) n at ≡ ok xs end
    → Lie allowance start s at xs end
unfolding many_at
items_lie allowance start s big zero at {xs} {end} e =
    let none : [] ≡ xs = cc in
    let here : at ≡ end = cc in
    rw (← none, ← here) (record { held = tt; short = tt; spent = λ h k. k })
items_lie allowance start s big (suc n) at {xs} {end} e =
    let w = many-next (item_at allowance start s) {n = n} {n' = suc n} refl e in
    let i = item-read allowance start s big at w.here in
    let small : w.first.1 ≤ 1000000 = (most-moves 1000000 s at big i.sized).2 in
    let fits : w.first.0 + w.first.1 ≤ length s = omega (arith, i.starts, i.ends, i.fits) in
    let long : length (bytes_in s w.first) ≡ w.first.1 = part-long s w.first.0 w.first.1 fits in
    let m = items_lie allowance start s big n w.next w.rest in
    rw w.split
    (record {
      held = (fits, m.held);
      short = (rw long small, m.short);
      spent = λ h k. m.spent (omega (arith, i.later, i.ends)) (omega (arith, i.later, i.ends, i.spent, i.room));
    })
