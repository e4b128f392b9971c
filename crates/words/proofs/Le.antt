-- Little-endian numbers: one byte more, how large they get, and reading back what was spelled.
use mathlib.Core.Path.{◌≡◌, refl, ap, sym, ◌∙◌}
use Prim.Native.Nat.{ℕ, zero, suc, ◌+◌, ◌-◌, ◌*◌, ◌/◌, ◌%◌, ◌^◌, ◌≤◌, ◌<◌}
use native.Mathlib.Omega.{arith}
use native.Mathlib.Nat.{pow-suc, lt_of_lt_of_le, pow-le-pow_right, div-lt_iff_lt-mul, div-div-eq-div-mul}
use mathlib.Core.List.{List, [], ◌∷◌, ◌++◌}
use lib.ListN.{length, take, drop, get_or, replicate, length-append, length-replicate, length-take, length-drop}
use lib.Seq.{drop-cons, get_or-drop, take-take}
use Rattle.words.specs.Words.{le, bytes, Bytes}
use Rattle.std.proofs.lemmas.List.{drop-replicate}
use Rattle.std.specs.Int.{w64, from_le_bytes, to_le_bytes}
use Rattle.words.proofs.Entries.{entries, all-entries}

-- the bytes from at, the first apart
pub le-more : (s : List ℕ) {at at' k k' : ℕ} → at < length s → at' ≡ suc at → k' ≡ suc k → le (take k' (drop at s)) ≡ le (take k (drop at' s)) * 256 + get_or s at 0
unfolding le
le-more s {at} {at'} {k} {k'} h p q = rw (p, q, drop-cons s at 0 h) (omega arith)

le-most : (n : ℕ) (s : List ℕ) → Bytes s → le (take n s) < 256 ^ n
unfolding le
le-most zero s b = omega arith
le-most (suc n) [] b = omega (arith, pow-suc 256 n, le-most n [] b)
le-most (suc n) (x ∷ s) b = omega (arith, pow-suc 256 n, le-most n s (λ i. b (suc i)), b 0)

-- n bytes spell less than 256 ^ k
pub le-under : (s : List ℕ) (at n k : ℕ) → Bytes s → n ≤ k → le (take n (drop at s)) < 256 ^ k
le-under s at n k b h =
    lt_of_lt_of_le (le-most n (drop at s) (λ i. rw get_or-drop (b (at + i)))) (pow-le-pow_right (omega arith) h)

pub length-bytes : (n v : ℕ) → length (bytes n v) ≡ n
unfolding bytes
length-bytes zero v = refl
length-bytes (suc n) v = ap suc (length-bytes n (v / 256))

pub le_bytes : (n v : ℕ) → v < 256 ^ n → le (bytes n v) ≡ v
unfolding le bytes
le_bytes zero v h = omega arith
le_bytes (suc n) v h =
    let r : le (bytes n (v / 256)) ≡ v / 256 = le_bytes n (v / 256) ((div-lt_iff_lt-mul (omega arith)).1 (omega (arith, pow-suc 256 n))) in
    omega arith

-- zeros after the bytes spell nothing
le-zeros : (s : List ℕ) (n : ℕ) → le (s ++ replicate n 0) ≡ le s
unfolding le
le-zeros [] zero = refl
le-zeros [] (suc n) = omega (arith, le-zeros [] n)
le-zeros (x ∷ s) n = ap (λ (v : ℕ). x + 256 * v) (le-zeros s n)

-- the eight bytes of a word, as the library reads and writes them
pub from-le : (bs : List ℕ) → length bs ≡ 8 → from_le_bytes w64 bs ≡ le bs
unfolding le
from-le bs h =
    let e : le (entries 0 8 bs) ≡ le bs = ap le (all-entries 8 bs h) in
    omega arith

-- and where zeros stand after the first of them
pub from-padded : (t : List ℕ) → length t < 8 → from_le_bytes w64 (t ++ drop (length t) (replicate 8 0)) ≡ le t
from-padded t h =
    let z : drop (length t) (replicate {A = ℕ} 8 0) ≡ replicate (8 - length t) 0 = drop-replicate (length t) 8 0 in
    let n : length (t ++ drop (length t) (replicate 8 0)) ≡ 8 = rw z (simp (length-append, length-replicate) (omega arith)) in
    from-le (t ++ drop (length t) (replicate 8 0)) n ∙ rw z (le-zeros t (8 - length t))

pub to-le : (v : ℕ) → to_le_bytes w64 v ≡ bytes 8 v
unfolding bytes
to-le v = simp div-div-eq-div-mul

-- bytes are what their number spells
pub bytes_le : (n : ℕ) (bs : List ℕ) → length bs ≡ n → Bytes bs → bytes n (le bs) ≡ bs
unfolding le bytes
bytes_le zero [] h b = refl
bytes_le (suc n) [] h b = absurd (omega arith)
bytes_le zero (x ∷ bs) h b = absurd (omega arith)
bytes_le (suc n) (x ∷ bs) h b =
    let low : (x + 256 * le bs) % 256 ≡ x = omega (arith, b 0) in
    let high : (x + 256 * le bs) / 256 ≡ le bs = omega (arith, b 0) in
    rw (low, high, bytes_le n bs (omega arith) (λ i. b (suc i)))

-- the first of bytes, the others, and a part of them are bytes
pub bytes_take : (n : ℕ) (a : List ℕ) → Bytes a → Bytes (take n a)
bytes_take zero a b i = omega arith
bytes_take (suc n) [] b i = b i
bytes_take (suc n) (x ∷ a) b zero = b 0
bytes_take (suc n) (x ∷ a) b (suc i) = bytes_take n a (λ k. b (suc k)) i

pub bytes_drop : (n : ℕ) (a : List ℕ) → Bytes a → Bytes (drop n a)
bytes_drop n a b i = rw get_or-drop (b (n + i))

pub part_bytes : (s : List ℕ) (at n : ℕ) → Bytes s → Bytes (take n (drop at s))
part_bytes s at n b = bytes_take n (drop at s) (bytes_drop at s b)

-- n bytes from at on, where they are all there
pub part-long : (s : List ℕ) (at n : ℕ) → at + n ≤ length s → length (take n (drop at s)) ≡ n
part-long s at n h = simp (length-take, length-drop) (omega arith)

-- a part of what was cut off is a part of the whole
pub part-of-part : (n k m : ℕ) (l : List ℕ) → k + n ≤ m → take n (drop k (take m l)) ≡ take n (drop k l)
part-of-part n zero m l h = take-take n m l (omega arith)
part-of-part n (suc k) zero l h = absurd (omega arith)
part-of-part n (suc k) (suc m) [] h = refl
part-of-part n (suc k) (suc m) (x ∷ l) h = part-of-part n k m l (omega arith)

-- equal words are equal bytes
pub word-one : (s t : List ℕ) (p q : ℕ) → Bytes s → Bytes t → p + 8 ≤ length s → q + 8 ≤ length t → le (take 8 (drop p s)) ≡ le (take 8 (drop q t)) → take 8 (drop p s) ≡ take 8 (drop q t)
word-one s t p q b c h k e =
    sym (bytes_le 8 (take 8 (drop p s)) (part-long s p 8 h) (part_bytes s p 8 b))
    ∙ ap (bytes 8) e
    ∙ bytes_le 8 (take 8 (drop q t)) (part-long t q 8 k) (part_bytes t q 8 c)
