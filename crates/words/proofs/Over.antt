-- Bytes laid over bytes: as runs of stores, one after the other, and where there is room or none.
use mathlib.Core.Path.{◌≡◌, refl, ap, sym, ◌∙◌}
use Prim.Native.Nat.{ℕ, suc, ◌+◌, ◌/◌, ◌%◌, ◌≤◌, ◌<◌}
use native.Mathlib.Omega.{arith}
use native.Mathlib.Nat.{add-zero}
use native.Mathlib.Numerals.{add-one}
use mathlib.Core.List.{List, [], ◌∷◌, ◌++◌, append-nil, append_assoc}
use mathlib.Core.Bool.{true, false}
use lib.ListN.{length, get_or, take, drop, set, length-set, length-append, drop_of_length-le, replicate, length-replicate, replicate-append-replicate}
use lib.Seq.{sets, sets-eq, length-sets, drop-cons, drop-drop, drop_at}
use borrow.Author.Tests.{le-leb, lt-leb}
use borrow.Rule.Slice.PartMut.{put_mid}
use Rattle.words.specs.Words.{bytes}
use Rattle.words.specs.Buffers.{over, fits, laid}

pub over-sets : (at : ℕ) (bs d : List ℕ) → at + length bs ≤ length d → sets d at bs ≡ over at bs d
unfolding over
over-sets at bs d h = sets-eq bs d at h

pub length_over : (at : ℕ) (bs d : List ℕ) → at + length bs ≤ length d → length (over at bs d) ≡ length d
length_over at bs d h = ap length (sym (over-sets at bs d h)) ∙ length-sets d at bs

-- one byte of a number, and then the others
pub sets_more : (d : List ℕ) {j j' k k' : ℕ} (v : ℕ) → j' ≡ suc j → k' ≡ suc k → sets d j (bytes k' v) ≡ sets (set d j (v % 256)) j' (bytes k (v / 256))
unfolding bytes
sets_more d v p q = rw (p, q)

-- one byte of a copy, and then the others
pub copy_more : (d s : List ℕ) {j j' f f' : ℕ} → f < length s → j' ≡ suc j → f' ≡ suc f → sets d j (drop f s) ≡ sets (set d j (get_or s f 0)) j' (drop f' s)
copy_more d s {j} {j'} {f} {f'} h p q = rw (p, q, drop-cons s f 0 h)

-- a part of d that bs was written to whole
pub over-mid : (at k : ℕ) (bs d : List ℕ) → length bs ≡ k → put_mid at k d bs ≡ over at bs d
unfolding over
over-mid at k bs d h =
    let e : at + k ≡ at + length bs = omega arith in
    sym (append_assoc (take at d) bs (drop k (drop at d)))
    ∙ ap (λ (l : List ℕ). take at d ++ bs ++ l) (drop-drop k at d)
    ∙ ap (λ (n : ℕ). take at d ++ bs ++ drop n d) e

pub over-cons : (at x : ℕ) (bs d : List ℕ) → at + suc (length bs) ≤ length d → over (at + 1) bs (set d at x) ≡ over at (x ∷ bs) d
over-cons at x bs d h =
    rw add-one (sym (over-sets (suc at) bs (set d at x) (simp length-set (omega arith))) ∙ over-sets at (x ∷ bs) d h)

sets-append : (xs ys d : List ℕ) (at : ℕ) → sets d at (xs ++ ys) ≡ sets (sets d at xs) (at + length xs) ys
sets-append [] ys d at = rw add-zero
sets-append (x ∷ xs) ys d at =
    let k : at + suc (length xs) ≡ suc at + length xs = omega arith in
    rw k (sets-append xs ys (set d at x) (suc at))

-- bytes over bytes, and then more after them
pub over-append : (at : ℕ) (xs ys d : List ℕ) → at + length xs + length ys ≤ length d → over (at + length xs) ys (over at xs d) ≡ over at (xs ++ ys) d
over-append at xs ys d h =
    let h₁ = over-sets at xs d (omega arith) in
    let h₂ = over-sets (at + length xs) ys (sets d at xs) (rw length-sets (omega arith)) in
    let h₃ = over-sets at (xs ++ ys) d (rw length-append (omega arith)) in
    rw (← h₁, ← h₂, ← h₃) (sym (sets-append xs ys d at))

-- ---- room, or none

module _ (at : ℕ) (bs d : List ℕ) (n : ℕ) (long : length bs ≡ n) where
  pub no_room : length d < at + n → (false ≡ fits at bs d) × (d ≡ laid at bs d)
  unfolding fits laid
  no_room h = (simp (long, lt-leb (at + n) (length d) h), simp (long, lt-leb (at + n) (length d) h))

  pub room : at + n ≤ length d → {d' : List ℕ} → d' ≡ over at bs d → (true ≡ fits at bs d) × (d' ≡ laid at bs d)
  unfolding fits laid
  room h e =
      let k = le-leb (at + length bs) (length d) (omega arith) in
      (rw k, rw k e)

  -- what is laid where there is room
  pub laid-over : at + n ≤ length d → laid at bs d ≡ over at bs d
  unfolding fits laid
  laid-over h = simp (le-leb (at + length bs) (length d) (omega arith))

-- bytes over all of as many
pub over-all : (bs d : List ℕ) → length bs ≡ length d → over 0 bs d ≡ bs
unfolding over
over-all bs d e =
    let z : drop (0 + length bs) d ≡ [] = drop_of_length-le d {i = 0 + length bs} (omega arith) in
    ap (λ (l : List ℕ). bs ++ l) z ∙ append-nil bs

pub laid-all : (bs d : List ℕ) → length bs ≡ length d → laid 0 bs d ≡ bs
laid-all bs d e = laid-over 0 bs d (length d) e (omega arith) ∙ over-all bs d e

-- two runs of bytes, one after the other, over all of as many
pub laid-two : (xs ys d : List ℕ) {at : ℕ} → length xs ≡ at → at + length ys ≡ length d → laid at ys (laid 0 xs d) ≡ xs ++ ys
laid-two xs ys d {at} e f =
    let h : laid 0 xs d ≡ over 0 xs d = laid-over 0 xs d at e (omega arith) in
    let kept : length (over 0 xs d) ≡ length d = length_over 0 xs d (omega arith) in
    rw h
    (laid-over at ys (over 0 xs d) (length ys) refl (omega arith)
    ∙ ap (λ (n : ℕ). over n ys (over 0 xs d)) (let z : at ≡ 0 + length xs = omega arith in z)
    ∙ over-append 0 xs ys d (omega arith)
    ∙ over-all (xs ++ ys) d (length-append xs ys ∙ omega arith))

-- zeros after zeros
pub zeros : (i j n : ℕ) → n ≡ i + j → replicate {A = ℕ} n 0 ≡ replicate i 0 ++ replicate j 0
zeros i j n e = rw e (sym (replicate-append-replicate {A = ℕ} i j 0))

-- l laid over n zeros
pub over_zeros : (l : List ℕ) (q n : ℕ) → n ≡ length l + q → laid 0 l (replicate n 0) ≡ l ++ replicate q 0
unfolding over
over_zeros l q n h =
    let d : drop (0 + length l) (replicate {A = ℕ} n 0) ≡ replicate q 0 =
    ap (drop (0 + length l)) (zeros (length l) q n h) ∙ drop_at (replicate (length l) 0) (replicate q 0) (0 + length l) (simp length-replicate (omega arith)) in
    laid-over 0 l (replicate n 0) (length l) refl (simp length-replicate (omega arith)) ∙ ap (λ (z : List ℕ). l ++ z) d
