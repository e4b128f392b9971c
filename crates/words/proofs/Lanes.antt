-- The words of a string of bytes.
use mathlib.Core.Path.{◌≡◌, refl, ap, ap₂, sym, ◌∙◌}
use mathlib.Core.List.{List, [], ◌∷◌, ◌++◌, append-nil, append_assoc}
use Prim.Native.Nat.{ℕ, zero, suc, ◌+◌, ◌-◌, ◌*◌, ◌/◌, ◌≤◌, ◌<◌}
use native.Mathlib.Omega.{arith}
use native.Mathlib.Numerals.{add-one}
use borrow.Rule.Slice.PartMut.{put_mid}
use lib.ListN.{length, take, drop, get_or, set, replicate, length-append, length-drop, drop_of_length-le}
use lib.Seq.{take-append-le, drop-append-le, drop-drop, drop-length, take-nil, take_all, take_at, take-suc, take-suc-set, get_or-drop}
use Rattle.std.proofs.Common.{min, map}
use Rattle.std.proofs.lemmas.List.{map-append}
use Rattle.std.proofs.lemmas.Slice.{between_to_end}
use Rattle.std.specs.Simd.{first_chunks}
use Rattle.words.specs.Words.{le, lanes}
use Rattle.words.proofs.Cases.{by_order}

pub length-lanes : (n : ℕ) (p : List ℕ) → length (lanes n p) ≡ n
unfolding lanes
length-lanes zero p = refl
length-lanes (suc n) p = ap suc (length-lanes n (drop 8 p))

-- a word by its place
pub lane-at : (n : ℕ) (p : List ℕ) (i : ℕ) → i < n → get_or (lanes n p) i 0 ≡ le (take 8 (drop (8 * i) p))
unfolding lanes
lane-at zero p i h = absurd (omega arith)
lane-at (suc n) p zero h = refl
lane-at (suc n) p (suc i) h =
    let k : 8 + 8 * i ≡ 8 * suc i = omega arith in
    lane-at n (drop 8 p) i (omega arith) ∙ ap (λ (l : List ℕ). le (take 8 l)) (drop-drop (8 * i) 8 p ∙ ap (λ (j : ℕ). drop j p) k)

-- words that lie in the first part
pub lanes-append : (n : ℕ) (q r : List ℕ) → 8 * n ≤ length q → lanes n (q ++ r) ≡ lanes n q
unfolding lanes
lanes-append zero q r h = refl
lanes-append (suc n) q r h =
    let l : 8 ≤ length q = omega arith in
    rw (take-append-le 8 q r, drop-append-le 8 q r)
    (ap (λ (w : List ℕ). le (take 8 q) ∷ w) (lanes-append n (drop 8 q) r (simp length-drop (omega arith))))

-- words of eight bytes each, cut off one after the other
pub lanes-chunks : (n k : ℕ) (p : List ℕ) → n ≤ k → map le (take n (first_chunks 8 k p)) ≡ lanes n p
unfolding lanes
lanes-chunks zero k p h = refl
lanes-chunks (suc n) zero p h = absurd (omega arith)
lanes-chunks (suc n) (suc k) p h = ap (λ (w : List ℕ). le (take 8 p) ∷ w) (lanes-chunks n k (drop 8 p) (omega arith))

lanes-none : (n : ℕ) → lanes n [] ≡ replicate n 0
unfolding lanes le
lanes-none zero = refl
lanes-none (suc n) = ap (λ (w : List ℕ). 0 ∷ w) (lanes-none n)

-- after the whole words the one that the last bytes begin, and zeros
lanes-cut : (k j n : ℕ) (p : List ℕ) → n ≡ k + suc j → 8 * k ≤ length p → length p < 8 * k + 8 → lanes n p ≡ lanes k p ++ (le (drop (8 * k) p) ∷ replicate j 0)
unfolding lanes
lanes-cut zero j zero p e h g = absurd (omega arith)
lanes-cut zero j (suc n) p e h g =
    let f : n ≡ j = omega arith in
    rw (f, take_all 8 p (omega arith), drop_of_length-le p {i = 8} (omega arith)) (ap (λ (w : List ℕ). le p ∷ w) (lanes-none j))
lanes-cut (suc k) j zero p e h g = absurd (omega arith)
lanes-cut (suc k) j (suc n) p e h g =
    let f : 8 + 8 * k ≡ 8 * suc k = omega arith in
    let r = lanes-cut k j n (drop 8 p) (omega arith) (simp length-drop (omega arith)) (simp length-drop (omega arith)) in
    let q : drop (8 * k) (drop 8 p) ≡ drop (8 * suc k) p = drop-drop (8 * k) 8 p ∙ ap (λ (i : ℕ). drop i p) f in
    ap (λ (w : List ℕ). le (take 8 p) ∷ w) (r ∙ ap (λ (b : List ℕ). lanes k (drop 8 p) ++ (le b ∷ replicate j 0)) q)

-- one more of the words
pub words-more : (out : List ℕ) (ws : List (List ℕ)) (i x : ℕ) → i < length out → i < length ws → x ≡ le (get_or ws i []) → take i out ≡ map le (take i ws) → take (i + 1) (set out i x) ≡ map le (take (i + 1) ws)
words-more out ws i x h g e f =
    rw add-one
    (take-suc-set out i x h
    ∙ ap₂ (λ (l : List ℕ) (w : ℕ). l ++ (w ∷ [])) f e
    ∙ sym (ap (map le) (take-suc ws i [] g) ∙ map-append le (take i ws) (get_or ws i [] ∷ [])))

-- a list of words of which the first k were written, then one more, and then the others
words-laid : (out ws zs : List ℕ) (k x : ℕ) → length ws ≡ k → k < length out → put_mid (k + 1) (length (set (ws ++ drop k out) k x) - (k + 1)) (set (ws ++ drop k out) k x) zs ≡ ws ++ (x ∷ zs)
words-laid out ws zs k x h g =
    let l : List ℕ = ws ++ drop k out in
    let n : k < length l = simp (length-append, length-drop) (omega arith) in
    let first : take (k + 1) (set l k x) ≡ ws ++ (x ∷ []) = rw add-one (take-suc-set l k x n ∙ ap (λ (v : List ℕ). v ++ (x ∷ [])) (take_at ws (drop k out) k h)) in
    let last : drop (length (set l k x) - (k + 1)) (drop (k + 1) (set l k x)) ≡ [] = drop_of_length-le (drop (k + 1) (set l k x)) {i = length (set l k x) - (k + 1)} (simp length-drop (omega arith)) in
    ap₂ (λ (u v : List ℕ). u ++ (zs ++ v)) first last ∙ ap (λ (v : List ℕ). ws ++ (x ∷ []) ++ v) (append-nil zs) ∙ append_assoc ws (x ∷ []) zs

-- and so the whole words of p, the one that its last bytes begin, and zeros
pub lanes-laid : (out ws zs p : List ℕ) (k x : ℕ) → k ≡ length p / 8 → k < length out → ws ≡ lanes k p → x ≡ le (drop (8 * k) p) → zs ≡ replicate (length out - (k + 1)) 0 → put_mid (k + 1) (length (set (ws ++ drop k out) k x) - (k + 1)) (set (ws ++ drop k out) k x) zs ≡ lanes (length out) p
lanes-laid out ws zs p k x q g a b c =
    let j = length out - (k + 1) in
    words-laid out ws zs k x (ap length a ∙ length-lanes k p) g
    ∙ ap₂ (λ (u v : List ℕ). u ++ v) a (ap₂ (λ (w : ℕ) (v : List ℕ). w ∷ v) b c)
    ∙ sym (lanes-cut k j (length out) p (omega arith) (omega arith) (omega arith))

-- what lies from `at` on, or nothing
pub from-at : (m : List ℕ) (at i : ℕ) → i ≡ min at (length m) → take (length m - i) (drop i m) ≡ drop at m
from-at m at i e =
    between_to_end m i (length m) (omega arith)
    ∙ by_order at (length m)
    (λ h. let f : i ≡ at = omega arith in rw f)
    (λ h. let f : i ≡ length m = omega arith in rw f (drop-length m ∙ sym (drop_of_length-le m {i = at} h)))

-- ---- zeros after a string change none of its words

-- the same bytes at every place, where there are zeros past the end
Alike : List ℕ → List ℕ → Type 0
Alike p q = (i : ℕ) → get_or p i 0 ≡ get_or q i 0

le-alike : (n : ℕ) (p q : List ℕ) → Alike p q → le (take n p) ≡ le (take n q)
unfolding le Alike
le-alike zero p q h = refl
le-alike (suc n) [] [] h = refl
le-alike (suc n) [] (y ∷ q) h = omega (arith, h 0, le-alike n [] q (λ i. h (suc i)), ap le (take-nil {A = ℕ} n))
le-alike (suc n) (x ∷ p) [] h = omega (arith, h 0, le-alike n p [] (λ i. h (suc i)), ap le (take-nil {A = ℕ} n))
le-alike (suc n) (x ∷ p) (y ∷ q) h = ap₂ (λ (b r : ℕ). b + 256 * r) (h 0) (le-alike n p q (λ i. h (suc i)))

lanes-alike : (n : ℕ) (p q : List ℕ) → Alike p q → lanes n p ≡ lanes n q
unfolding lanes Alike
lanes-alike zero p q h = refl
lanes-alike (suc n) p q h =
    ap₂ (λ (w : ℕ) (l : List ℕ). w ∷ l) (le-alike 8 p q h)
    (lanes-alike n (drop 8 p) (drop 8 q) (λ i. get_or-drop 8 p i 0 ∙ h (8 + i) ∙ sym (get_or-drop 8 q i 0)))

zeros-alike : (p : List ℕ) (k : ℕ) → Alike (p ++ replicate k 0) p
unfolding Alike
zeros-alike [] zero i = refl
zeros-alike [] (suc k) zero = refl
zeros-alike [] (suc k) (suc i) = zeros-alike [] k i
zeros-alike (x ∷ p) k zero = refl
zeros-alike (x ∷ p) k (suc i) = zeros-alike p k i

pub lanes-zeros : (n : ℕ) (p : List ℕ) (k : ℕ) → lanes n (p ++ replicate k 0) ≡ lanes n p
lanes-zeros n p k = lanes-alike n (p ++ replicate k 0) p (zeros-alike p k)
