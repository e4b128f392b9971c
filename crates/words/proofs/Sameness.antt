-- Lists of bytes that are the same, byte by byte.
use mathlib.Core.Path.{◌≡◌, refl, ap, ap₂, sym, ◌∙◌}
use Prim.Native.Nat.{ℕ, zero, suc, ◌+◌, ◌*◌, ◌/◌, ◌<◌}
use native.Mathlib.Omega.{arith}
use native.Mathlib.Numerals.{add-one}
use mathlib.Core.List.{List, [], ◌∷◌, ◌++◌}
use mathlib.Core.Bool.{Bool, true, false, not, ◌&&◌}
use lib.ListN.{length, take, drop, get_or, take-append-drop}
use lib.Seq.{drop-cons, drop-length, drop-drop}
use lib.Dec.{eqb}
use lib.Pointwise.{pointwise}
use Rattle.std.specs.Simd.{first_chunks}
use borrow.Author.Tests.{eq-eqb, ne_eqb, eqb-true}
use Rattle.words.specs.Sameness.{same}
use Rattle.words.proofs.Le.{part-long}

pub and-false : (b : Bool) → (b && false) ≡ false
and-false true = refl
and-false false = refl

pub same-long : (a b : List ℕ) → (length a ≡ length b → ⊥) → same a b ≡ false
unfolding same
same-long [] [] h = absurd (h refl)
same-long [] (y ∷ ys) h = refl
same-long (x ∷ xs) [] h = refl
same-long (x ∷ xs) (y ∷ ys) h = rw (same-long xs ys (λ e. h (ap suc e))) (and-false (eqb x y))

pub same_refl : (a : List ℕ) → same a a ≡ true
unfolding same
same_refl [] = refl
same_refl (x ∷ xs) = rw (eq-eqb x x refl, same_refl xs)

pub and-true : (t u : Bool) → (t && u) ≡ true → (t ≡ true) × (u ≡ true)
and-true true u e = (refl, e)
and-true false u e = let z : false ≡ true = e in absurd (let q : ◌≡◌ {A = ℕ} 0 1 = cc in omega arith)

pub same_true : (a b : List ℕ) → same a b ≡ true → a ≡ b
unfolding same
same_true [] [] e = refl
same_true [] (y ∷ ys) e = absurd (let q : ◌≡◌ {A = ℕ} 0 1 = cc in omega arith)
same_true (x ∷ xs) [] e = absurd (let q : ◌≡◌ {A = ℕ} 0 1 = cc in omega arith)
same_true (x ∷ xs) (y ∷ ys) e =
    let p = and-true (eqb x y) (same xs ys) e in
    ap₂ (λ h t. h ∷ t) (eqb-true x y p.0) (same_true xs ys p.1)

module _ (a b : List ℕ) (i : ℕ) (ha : i < length a) (hb : i < length b) where
  pub same_next : get_or a i 0 ≡ get_or b i 0 → same (drop i a) (drop i b) ≡ same (drop (i + 1) a) (drop (i + 1) b)
  unfolding same
  same_next e = rw (add-one, drop-cons a i 0 ha, drop-cons b i 0 hb, eq-eqb _ _ e)

  pub same_stop : (get_or a i 0 ≡ get_or b i 0 → ⊥) → same (drop i a) (drop i b) ≡ false
  unfolding same
  same_stop e = rw (drop-cons a i 0 ha, drop-cons b i 0 hb, ne_eqb _ _ e)

pub same_end : (a b : List ℕ) (i : ℕ) → i ≡ length a → i ≡ length b → same (drop i a) (drop i b) ≡ true
unfolding same
same_end a b i p q =
    let e : drop i a ≡ [] = ap (λ n. drop n a) p ∙ drop-length a in
    let f : drop i b ≡ [] = ap (λ n. drop n b) q ∙ drop-length b in
    rw (e, f)

-- ---- words that are cut off, eight bytes each

and-and : (s t u : Bool) → (s && (t && u)) ≡ ((s && t) && u)
and-and true t u = refl
and-and false t u = refl

-- as many bytes, and then the others
same-split : (x y s t : List ℕ) → length x ≡ length y → same (x ++ s) (y ++ t) ≡ (same x y && same s t)
unfolding same
same-split [] [] s t e = refl
same-split [] (y ∷ ys) s t e = absurd (omega arith)
same-split (x ∷ xs) [] s t e = absurd (omega arith)
same-split (x ∷ xs) (y ∷ ys) s t e =
    ap (λ r. eqb x y && r) (same-split xs ys s t (omega arith)) ∙ and-and (eqb x y) (same xs ys) (same s t)

-- what the library's comparison of arrays and slices answers
same-eq : (a b : List ℕ) → pointwise eqb a b ≡ same a b
unfolding same
same-eq [] [] = refl
same-eq [] (y ∷ ys) = refl
same-eq (x ∷ xs) [] = refl
same-eq (x ∷ xs) (y ∷ ys) = ap (λ t. eqb x y && t) (same-eq xs ys)

chunk-at : (k : ℕ) (p : List ℕ) (i : ℕ) → i < k → get_or (first_chunks 8 k p) i [] ≡ take 8 (drop (8 * i) p)
chunk-at zero p i h = absurd (omega arith)
chunk-at (suc k) p zero h = refl
chunk-at (suc k) p (suc i) h =
    let e : 8 + 8 * i ≡ 8 * suc i = omega arith in
    chunk-at k (drop 8 p) i (omega arith) ∙ ap (take 8) (drop-drop (8 * i) 8 p ∙ ap (λ (j : ℕ). drop j p) e)

pass : (p r : Bool) → false ≡ not p → (p && r) ≡ r
pass true r e = refl
pass false r e = cc

stop : (p r : Bool) → true ≡ not p → (p && r) ≡ false
stop true r e = cc
stop false r e = refl

module _ (a b : List ℕ) (ws vs : List (List ℕ)) (i : ℕ) (long : length a ≡ length b) (p : ws ≡ first_chunks 8 (length a / 8) a) (q : vs ≡ first_chunks 8 (length b / 8) b) (n : length ws ≡ length a / 8) (h : i < length ws) where
  abbrev alike : Bool
  alike = pointwise eqb (get_or ws i []) (get_or vs i [])

  -- word i of both, and then the others
  word_first : same (drop (8 * i) a) (drop (8 * i) b) ≡ (alike && same (drop (8 * (i + 1)) a) (drop (8 * (i + 1)) b))
  word_first =
      let e : 8 * i + 8 ≡ 8 * (i + 1) = omega arith in
      let x = take 8 (drop (8 * i) a) in
      let y = take 8 (drop (8 * i) b) in
      let s : drop (8 * i) a ≡ x ++ drop (8 * (i + 1)) a = rw (← e, ← drop-drop 8 (8 * i) a) (sym (take-append-drop 8 (drop (8 * i) a))) in
      let t : drop (8 * i) b ≡ y ++ drop (8 * (i + 1)) b = rw (← e, ← drop-drop 8 (8 * i) b) (sym (take-append-drop 8 (drop (8 * i) b))) in
      let u = ap (λ (w : List (List ℕ)). get_or w i []) p ∙ chunk-at (length a / 8) a i (omega arith) in
      let v = ap (λ (w : List (List ℕ)). get_or w i []) q ∙ chunk-at (length b / 8) b i (omega arith) in
      ap₂ same s t
      ∙ same-split x y (drop (8 * (i + 1)) a) (drop (8 * (i + 1)) b) (part-long a (8 * i) 8 (omega arith) ∙ sym (part-long b (8 * i) 8 (omega arith)))
      ∙ ap (λ r. r && same (drop (8 * (i + 1)) a) (drop (8 * (i + 1)) b)) (sym (ap₂ (pointwise eqb) u v ∙ same-eq x y))

  pub word_next : false ≡ not alike → same (drop (8 * i) a) (drop (8 * i) b) ≡ same (drop (8 * (i + 1)) a) (drop (8 * (i + 1)) b)
  word_next e = word_first ∙ pass alike _ e

  pub word_stop : true ≡ not alike → same (drop (8 * i) a) (drop (8 * i) b) ≡ false
  word_stop e = word_first ∙ stop alike _ e

-- the bytes after the last whole word
pub words-done : (a b : List ℕ) (i : ℕ) {s t : List ℕ} → i ≡ length a / 8 → length a ≡ length b → s ≡ drop (length a / 8 * 8) a → t ≡ drop (length b / 8 * 8) b → same (drop (8 * i) a) (drop (8 * i) b) ≡ same s t
words-done a b i e long p q =
    let f : 8 * i ≡ length a / 8 * 8 = omega arith in
    let g : 8 * i ≡ length b / 8 * 8 = omega (arith, ap (λ (n : ℕ). n / 8) long) in
    ap₂ same (ap (λ (n : ℕ). drop n a) f ∙ sym p) (ap (λ (n : ℕ). drop n b) g ∙ sym q)

-- the same bytes after both
pub same-append : (a b zs : List ℕ) → length a ≡ length b → same a b ≡ same (a ++ zs) (b ++ zs)
unfolding same
same-append [] [] zs e = sym (same_refl zs)
same-append [] (y ∷ ys) zs e = absurd (omega arith)
same-append (x ∷ xs) [] zs e = absurd (omega arith)
same-append (x ∷ xs) (y ∷ ys) zs e = ap (λ t. eqb x y && t) (same-append xs ys zs (omega arith))
