-- Laws of the sponge's lists.
use mathlib.Core.Path.{◌≡◌, refl, ap, ap₂, sym, ◌∙◌}
use mathlib.Core.List.{List, [], ◌∷◌, ◌++◌}
use Prim.Native.Nat.{ℕ, zero, suc, ◌+◌, ◌*◌, ◌/◌, ◌≤◌, ◌<◌}
use native.Mathlib.Nat.{le_of_suc-le-suc, not-suc-le-zero, mul-zero, mul-suc}
use native.Mathlib.Numerals.{add-one}
use native.Mathlib.Omega.{arith}
use lib.Bits.{bit_xor}
use lib.ListN.{length, take, drop, get_or, set, length-append, take-append-drop}
use lib.Seq.{drop_at, drop-drop, take-length}
use Rattle.std.specs.Simd.{first_chunks}
use Rattle.words.specs.Words.{le, lanes}
use Rattle.words.proofs.Le.{part-long}
use Rattle.words.proofs.Lanes.{length-lanes, lane-at}
use Rattle.sha3.specs.Keccak.{keccak_p}
use Rattle.sha3.specs.Sha3.{bits_of, mixed, block, absorbed}
use Rattle.sha3.proofs.Bits.{length-bits_of, packed-append}
use Rattle.sha3.proofs.Padding.{padded_message, padded-more, length-padded}

pub mixed-nil : (s : List ℕ) → mixed s [] ≡ s
unfolding mixed
mixed-nil [] = refl
mixed-nil (x ∷ s) = refl

-- one lane more
pub mixed-more :
    (i : ℕ) (s p : List ℕ) → i < length s → i < length p →
    set (mixed s (take i p)) i (bit_xor (get_or (mixed s (take i p)) i 0) (get_or p i 0)) ≡ mixed s (take (suc i) p)
unfolding mixed
mixed-more i [] p h k = absurd (not-suc-le-zero h)
mixed-more i (x ∷ s) [] h k = absurd (not-suc-le-zero k)
mixed-more zero (x ∷ s) (y ∷ p) h k = ap (λ (l : List ℕ). bit_xor x y ∷ l) (sym (mixed-nil s))
mixed-more (suc i) (x ∷ s) (y ∷ p) h k = ap (λ (l : List ℕ). bit_xor x y ∷ l) (mixed-more i s p (le_of_suc-le-suc h) (le_of_suc-le-suc k))

-- all lanes of a block
pub mixed-all : (s p : List ℕ) (n : ℕ) → n ≡ length p → mixed s (take n p) ≡ mixed s p
mixed-all s p n e = rw (e, take-length)

-- one lane more of a block, as it is loaded
pub mixed-lane :
    (s b : List ℕ) {i w : ℕ} → i < 17 → 17 ≤ length s → w ≡ le (take 8 (drop (8 * i) b)) →
    set (mixed s (take i (lanes 17 b))) i (bit_xor (get_or (mixed s (take i (lanes 17 b))) i 0) w) ≡ mixed s (take (i + 1) (lanes 17 b))
mixed-lane s b {i} {w} few long loaded =
    let p : List ℕ = lanes 17 b in
    let n : length p ≡ 17 = length-lanes 17 b in
    let e : w ≡ get_or p i 0 = loaded ∙ sym (lane-at 17 b i few) in
    rw (add-one, e) (mixed-more i s p (omega arith) (omega arith))

-- what is absorbed for the message m, from the state s on
abbrev pub absorbs : List ℕ → List ℕ → List ℕ
absorbs s m = absorbed keccak_p 1088 (length (padded_message m) / 1088) s (padded_message m)

-- a whole block at the front
pub absorbs-block : (s b m : List ℕ) → length b ≡ 136 → absorbs s (b ++ m) ≡ absorbs (block keccak_p 1088 s (bits_of 8 b)) m
unfolding block absorbed
absorbs-block s b m long =
    let p : List ℕ = padded_message m in
    let whole : length (bits_of 8 b) ≡ 1088 = length-bits_of 8 b ∙ omega (arith, long) in
    let count : length (bits_of 8 b ++ p) / 1088 ≡ suc (length p / 1088) = omega (arith, length-append (bits_of 8 b) p) in
    ap (λ (q : List ℕ). absorbed keccak_p 1088 (length q / 1088) s q) (padded-more b m long)
    ∙ ap (λ (n : ℕ). absorbed keccak_p 1088 n s (bits_of 8 b ++ p)) count
    ∙ ap₂ (absorbed keccak_p 1088 (length p / 1088))
    (ap (λ (w : List ℕ). keccak_p (mixed s w)) (packed-append 64 17 (bits_of 8 b) p (omega arith)))
    (drop_at (bits_of 8 b) p 1088 whole)

-- what is left after whole blocks is one block
pub absorbs-last : (s m : List ℕ) → length m < 136 → absorbs s m ≡ block keccak_p 1088 s (padded_message m)
unfolding absorbed
absorbs-last s m few =
    let e : length (padded_message m) / 1088 ≡ 1 = omega (arith, length-padded m) in
    rw e

-- ---- the blocks of a message

chunk-at : (n k : ℕ) (m : List ℕ) (i : ℕ) → i < k → get_or (first_chunks n k m) i [] ≡ take n (drop (n * i) m)
chunk-at n zero m i h = absurd (not-suc-le-zero h)
chunk-at n (suc k) m zero h = rw mul-zero
chunk-at n (suc k) m (suc i) h =
    let place : n * suc i ≡ n + n * i = omega (arith, mul-suc n i) in
    chunk-at n k (drop n m) i (le_of_suc-le-suc h) ∙ ap (take n) (drop-drop (n * i) n m ∙ ap (λ (j : ℕ). drop j m) (sym place))

-- one block more of the whole ones
pub absorbs-chunk :
    (s m : List ℕ) (i : ℕ) {b t : List ℕ} → t ≡ block keccak_p 1088 s (bits_of 8 b) → b ≡ get_or (first_chunks 136 (length m / 136) m) i [] → i < length m / 136 →
    absorbs t (drop (136 * (i + 1)) m) ≡ absorbs s (drop (136 * i) m)
absorbs-chunk s m i {b} {t} e front here =
    let p : List ℕ = take 136 (drop (136 * i) m) in
    let next : 136 * (i + 1) ≡ 136 * i + 136 = omega arith in
    let whole : p ++ drop (136 * (i + 1)) m ≡ drop (136 * i) m =
    ap (λ (j : ℕ). p ++ drop j m) next ∙ ap (λ (r : List ℕ). p ++ r) (sym (drop-drop 136 (136 * i) m)) ∙ take-append-drop 136 (drop (136 * i) m) in
    rw (e, front, chunk-at 136 (length m / 136) m i here)
    (sym (absorbs-block s p (drop (136 * (i + 1)) m) (part-long m (136 * i) 136 (omega arith))) ∙ ap (absorbs s) whole)
