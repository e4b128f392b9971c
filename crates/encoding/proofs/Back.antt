-- Reading back what was written: it is read as what it was made of, and what follows it stays.
use mathlib.Core.Path.{◌≡◌, refl, ap, ap₂, sym, ◌∙◌}
use Prim.Native.Nat.{ℕ, ◌+◌, ◌^◌, ◌≤◌, ◌<◌}
use native.Mathlib.Omega.{arith}
use native.Mathlib.Nat.{mod-eq_of_lt}
use mathlib.Core.List.{List, [], ◌∷◌, ◌++◌, map, append_assoc}
use lib.ListN.{length, drop, length-append, length-drop}
use lib.Seq.{take_at, drop_at, drop-drop, drop-append_seam}
use borrow.Author.Tests.{le-ltb, lt-ltb}
use Rattle.words.specs.Words.{bytes}
use Rattle.words.proofs.Cases.{by_order}
use Rattle.words.proofs.Le.{le_bytes, length-bytes}
use Rattle.refusal.specs.Outcome.{Outcome, ok, many_at}
use Rattle.encoding.specs.Wire.{inside, slice_at, bytes_at, fixed_at, compact_at, canonical, compact, compact_size, most, compact_most, bounded_at, varbytes_at, varbytes}
use Rattle.encoding.specs.Joined.{joined}
use Rattle.encoding.proofs.Compact.{form1, form3, form5, form9, length-compact}
use Rattle.encoding.proofs.Slice as slice

-- at at stands bs, and then rest
abbrev pub Stands : List ℕ → ℕ → List ℕ → List ℕ → Type 0
Stands s at bs rest = (at ≤ length s) × (drop at s ≡ bs ++ rest)

pub stands-long : (s : List ℕ) (at : ℕ) (bs rest : List ℕ) → Stands s at bs rest → at + length bs ≤ length s
stands-long s at bs rest h = omega (arith, ap length h.1, length-drop at s, length-append bs rest, h.0)

pub stands-next : (s : List ℕ) (at : ℕ) (bs rest : List ℕ) (n : ℕ) → length bs ≡ n → Stands s at bs rest → drop (at + n) s ≡ rest
stands-next s at bs rest n e h = sym (drop-drop n at s) ∙ ap (drop n) h.1 ∙ drop_at bs rest n e

-- of two that stand one after the other, each stands
pub stands-both : (s : List ℕ) (at : ℕ) (xs ys rest : List ℕ) (n : ℕ) → length xs ≡ n → Stands s at (xs ++ ys) rest → Stands s at xs (ys ++ rest) × Stands s (at + n) ys rest
stands-both s at xs ys rest n e h =
    let first : Stands s at xs (ys ++ rest) = (h.0, h.1 ∙ append_assoc xs ys rest) in
    (first, (omega (arith, stands-long s at xs (ys ++ rest) first), stands-next s at xs (ys ++ rest) n e first))

-- what was written between two others stands there
pub stands_here : (before bs rest : List ℕ) → Stands (before ++ (bs ++ rest)) (length before) bs rest
stands_here before bs rest = (omega (arith, length-append before (bs ++ rest)), drop-append_seam before (bs ++ rest))

module _ (s : List ℕ) where
  pub slice_back : (n at : ℕ) (bs rest : List ℕ) → length bs ≡ n → at + n < 2 ^ 64 → Stands s at bs rest → slice_at n s at ≡ ok (at, n) (at + n)
  slice_back n at bs rest long big h = slice.within n s at big (omega (arith, stands-long s at bs rest h))

  pub bytes_back : (n at : ℕ) (bs rest : List ℕ) → length bs ≡ n → at + n < 2 ^ 64 → Stands s at bs rest → bytes_at n s at ≡ ok bs (at + n)
  unfolding bytes_at
  bytes_back n at bs rest long big h = rw (slice_back n at bs rest long big h, h.1, take_at bs rest n long)

  pub fixed_back : (n v at : ℕ) (rest : List ℕ) → v < 256 ^ n → at + n < 2 ^ 64 → Stands s at (bytes n v) rest → fixed_at n s at ≡ ok v (at + n)
  unfolding fixed_at
  fixed_back n v at rest small big h = rw (bytes_back n at (bytes n v) rest (length-bytes n v) big h, le_bytes n v small)

  -- a tag, and then n bytes
  tagged-back : (tag n v at : ℕ) (rest : List ℕ) → tag < 256 → v < 256 ^ n → at + 1 + n < 2 ^ 64 → Stands s at (tag ∷ bytes n v) rest
      → (fixed_at 1 s at ≡ ok tag (at + 1)) × (fixed_at n s (at + 1) ≡ ok v (at + 1 + n))
  unfolding bytes
  tagged-back tag n v at rest t small big h =
      let two = stands-both s at (bytes 1 tag) (bytes n v) rest 1 refl (h.0, rw mod-eq_of_lt h.1) in
      (fixed_back 1 tag at (bytes n v ++ rest) t (omega arith) two.0, fixed_back n v (at + 1) rest small big two.1)

  pub compact-back : (v at : ℕ) (rest : List ℕ) → v < 2 ^ 64 → at + 9 < 2 ^ 64 → Stands s at (compact v) rest → compact_at s at ≡ ok v (at + compact_size v)
  unfolding compact_at canonical
  compact-back v at rest small big h =
      by_order v 253
      (λ a.
      let f = form1 v a in
      let k = fixed_back 1 v at rest (omega arith) (omega arith) (h.0, h.1 ∙ ap (λ bs. bs ++ rest) f.0) in
      rw (k, lt-ltb v 253 a, f.1))
      (λ a. by_order v 65536
      (λ b.
      let f = form3 v a b in
      let k = tagged-back 253 2 v at rest (omega arith) b (omega arith) (h.0, h.1 ∙ ap (λ bs. bs ++ rest) f.0) in
      rw (k.0, k.1, le-ltb v 253 a, f.1) (ap (ok v) (omega arith)))
      (λ b. by_order v 4294967296
      (λ d.
      let f = form5 v b d in
      let k = tagged-back 254 4 v at rest (omega arith) d (omega arith) (h.0, h.1 ∙ ap (λ bs. bs ++ rest) f.0) in
      rw (k.0, k.1, le-ltb v 65536 b, f.1) (ap (ok v) (omega arith)))
      (λ d.
      let f = form9 v d in
      let k = tagged-back 255 8 v at rest (omega arith) small (omega arith) (h.0, h.1 ∙ ap (λ bs. bs ++ rest) f.0) in
      rw (k.0, k.1, le-ltb v 4294967296 d, f.1) (ap (ok v) (omega arith)))))

  pub most-back : (maximum v at : ℕ) (rest : List ℕ) → v ≤ maximum → v < 2 ^ 64 → at + 9 < 2 ^ 64 → Stands s at (compact v) rest → compact_most maximum s at ≡ ok v (at + compact_size v)
  unfolding compact_most most
  most-back maximum v at rest h small big st = rw (compact-back v at rest small big st, le-ltb maximum v h)

  pub varbytes-back : (maximum at : ℕ) (bs rest : List ℕ) → length bs ≤ maximum → length s + 9 < 2 ^ 64 → Stands s at (varbytes bs) rest
      → varbytes_at maximum s at ≡ ok (at + compact_size (length bs), length bs) (at + compact_size (length bs) + length bs)
  unfolding varbytes varbytes_at bounded_at inside most
  varbytes-back maximum at bs rest h big st =
      let n = length bs in
      let two = stands-both s at (compact n) bs rest (compact_size n) (length-compact n) st in
      let long = stands-long s (at + compact_size n) bs rest two.1 in
      let e = most-back maximum n at (bs ++ rest) h (omega arith) (omega arith) two.0 in
      rw (e, le-ltb (length s) (at + compact_size n) (omega arith), le-ltb maximum n h) (slice_back n (at + compact_size n) bs rest refl (omega arith) two.1)

-- things of one kind that are read back one after the other, each as what it means: where the things from a place on
-- fit there, the first is read back, and the others fit after it
pub record EachBack {A B : Type 0} (s : List ℕ) (read : ℕ → Outcome A) (bytes : B → List ℕ) (mean : A → B) (Fits : ℕ → List B → Type 0) : Type 0 where
  pub first : (at : ℕ) (x : B) (xs : List B) (rest : List ℕ) → Fits at (x ∷ xs) → Stands s at (bytes x) rest → (a : A) × (read at ≡ ok a (at + length (bytes x))) × (mean a ≡ x)
  pub others : (at : ℕ) (x : B) (xs : List B) → Fits at (x ∷ xs) → Fits (at + length (bytes x)) xs

-- things that were written without gaps are read back, all of them
pub many-back : {A B : Type 0} {s : List ℕ} {read : ℕ → Outcome A} {bytes : B → List ℕ} {mean : A → B} {Fits : ℕ → List B → Type 0}
    → EachBack s read bytes mean Fits → (at : ℕ) (xs : List B) (rest : List ℕ) → Fits at xs → Stands s at (joined bytes xs) rest
    → (ys : List A) × (many_at read (length xs) at ≡ ok ys (at + length (joined bytes xs))) × (map mean ys ≡ xs)
unfolding joined many_at
many-back each at [] rest fits h = ([], ap (ok []) (omega arith), refl)
many-back {s = s} {bytes = bytes} each at (x ∷ xs) rest fits h =
    let n : ℕ = length (bytes x) in
    let two = stands-both s at (bytes x) (joined bytes xs) rest n refl h in
    let one = each.first at x xs (joined bytes xs ++ rest) fits two.0 in
    let ih = many-back each (at + n) xs rest (each.others at x xs fits) two.1 in
    let end : at + n + length (joined bytes xs) ≡ at + length (bytes x ++ joined bytes xs) = omega (arith, length-append (bytes x) (joined bytes xs)) in
    (one.0 ∷ ih.0, rw (one.1, ih.1) (ap (ok (one.0 ∷ ih.0)) end), ap₂ (λ y ys. y ∷ ys) one.2 ih.2)
