-- Numbers with the highest byte first: one byte more, how large they get, and reading back what was spelled.
use mathlib.Core.Path.{◌≡◌, refl, ap, ap₂, sym, ◌∙◌}
use Prim.Native.Nat.{ℕ, zero, suc, ◌+◌, ◌*◌, ◌/◌, ◌%◌, ◌^◌, ◌≤◌, ◌<◌}
use native.Mathlib.Omega.{arith}
use native.Mathlib.Nat.{pow-suc, pow-le-pow_right, div-one, div-eq_of_lt, div-div-eq-div-mul, mod-lt}
use native.Mathlib.Numerals.{add-one}
use mathlib.Core.List.{List, [], ◌∷◌}
use lib.ListN.{length, take, drop, get_or}
use lib.Seq.{drop-cons}
use Rattle.words.specs.Words.{spell, be, be_bytes, Bytes}

-- the bytes from at on, the first apart
pub spell-more : (s : List ℕ) (v : ℕ) {at at' k k' : ℕ} → at < length s → at' ≡ suc at → k' ≡ suc k → spell v (take k' (drop at s)) ≡ spell (v * 256 + get_or s at 0) (take k (drop at' s))
unfolding spell
spell-more s v {at} h p q = rw (p, q, drop-cons s at 0 h)

pub spell-none : (v : ℕ) (s : List ℕ) {k : ℕ} → k ≡ 0 → spell v (take k s) ≡ v
unfolding spell
spell-none v s p = rw p

-- a number of i bytes, and one more byte
pub grows : (v b i : ℕ) → v < 256 ^ i → b < 256 → v * 256 + b < 256 ^ (i + 1)
grows v b i h k = rw add-one (omega (arith, pow-suc 256 i))

-- a number of fewer than 8 bytes
pub room : (v i : ℕ) → v < 256 ^ i → i < 8 → v < 256 ^ 7
room v i h k =
    let few : i ≤ 7 = omega arith in
    let p : 256 ^ i ≤ 256 ^ 7 = pow-le-pow_right (omega arith) few in
    omega arith

-- as many bytes that spell the same are the same
pub spell_one : (v w : ℕ) (xs ys : List ℕ) → length xs ≡ length ys → Bytes xs → Bytes ys → spell v xs ≡ spell w ys → (v ≡ w) × (xs ≡ ys)
unfolding spell
spell_one v w [] [] l b c e = (e, refl)
spell_one v w [] (y ∷ ys) l b c e = absurd (omega arith)
spell_one v w (x ∷ xs) [] l b c e = absurd (omega arith)
spell_one v w (x ∷ xs) (y ∷ ys) l b c e =
    let r = spell_one (v * 256 + x) (w * 256 + y) xs ys (omega arith) (λ i. b (suc i)) (λ i. c (suc i)) e in
    let p : x ≡ y = omega (arith, r.0, b 0, c 0) in
    (omega (arith, r.0, b 0, c 0), ap₂ (λ h t. h ∷ t) p r.1)

spell-under : (i v : ℕ) (bs : List ℕ) → v < 256 ^ i → Bytes bs → spell v bs < 256 ^ (i + length bs)
unfolding spell
spell-under i v [] h b = let e : i + 0 ≡ i = omega arith in rw e h
spell-under i v (x ∷ bs) h b =
    let e : i + suc (length bs) ≡ i + 1 + length bs = omega arith in
    rw e (spell-under (i + 1) (v * 256 + x) bs (grows v x i h (b 0)) (λ k. b (suc k)))

-- bytes spell less than 256 to their number
pub be-under : (bs : List ℕ) → Bytes bs → be bs < 256 ^ length bs
be-under bs b = let e : length bs ≡ 0 + length bs = omega arith in rw e (spell-under 0 0 bs (omega arith) b)

pub length-be-bytes : (n v : ℕ) → length (be_bytes n v) ≡ n
unfolding be_bytes
length-be-bytes zero v = refl
length-be-bytes (suc n) v = ap suc (length-be-bytes n v)

be-bytes-are : (n v : ℕ) → Bytes (be_bytes n v)
unfolding be_bytes
be-bytes-are zero v i = omega arith
be-bytes-are (suc n) v zero = mod-lt (v / 256 ^ n) (omega arith)
be-bytes-are (suc n) v (suc i) = be-bytes-are n v i

-- what stands above the n lowest bytes, and then these
spell-back : (n v : ℕ) → spell (v / 256 ^ n) (be_bytes n v) ≡ v
unfolding spell be_bytes
spell-back zero v = div-one v
spell-back (suc n) v =
    let x : ℕ = v / 256 ^ n in
    let high : v / 256 ^ suc n ≡ x / 256 = ap (λ k. v / k) (pow-suc 256 n) ∙ sym (div-div-eq-div-mul v (256 ^ n) 256) in
    let both : v / 256 ^ suc n * 256 + x % 256 ≡ x = omega (arith, high) in
    ap (λ w. spell w (be_bytes n v)) both ∙ spell-back n v

pub be-bytes : (n v : ℕ) → v < 256 ^ n → be (be_bytes n v) ≡ v
be-bytes n v h = ap (λ w. spell w (be_bytes n v)) (sym (div-eq_of_lt h)) ∙ spell-back n v

-- bytes are what their number spells
pub bytes-be : (n : ℕ) (bs : List ℕ) → length bs ≡ n → Bytes bs → be_bytes n (be bs) ≡ bs
bytes-be n bs h b =
    let under : be bs < 256 ^ n = rw (← h) (be-under bs b) in
    (spell_one 0 0 (be_bytes n (be bs)) bs (length-be-bytes n (be bs) ∙ sym h) (be-bytes-are n (be bs)) b (be-bytes n (be bs) under)).1
