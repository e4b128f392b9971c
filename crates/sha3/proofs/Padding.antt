-- The padding of a message of whole bytes, as bytes.
use mathlib.Core.Path.{◌≡◌, refl, ap, sym, ◌∙◌}
use mathlib.Core.List.{List, [], ◌∷◌, ◌++◌, append_assoc}
use Prim.Native.Nat.{ℕ, zero, suc, ◌+◌, ◌-◌, ◌*◌, ◌%◌, ◌<◌}
use native.Mathlib.Omega.{arith}
use lib.Bits.{bit_or}
use lib.ListN.{length, drop, get_or, set, replicate, length-append, length-replicate}
use Rattle.std.proofs.lemmas.List.{drop-replicate}
use lib.Seq.{set_at, get_or_at}
use Rattle.sha3.specs.Sha3.{bits, bits_of, pad101, padded, suffixed}
use Rattle.words.proofs.Over.{zeros}
use Rattle.sha3.proofs.Bits.{bits-append, length-bits_of, eight-more}

-- the q bytes that the bits 01 and pad10*1 make (FIPS 202, B.2, Table 6)
unfoldable pub padding : ℕ → List ℕ
padding zero = []
padding (suc zero) = 0x86 ∷ []
padding (suc (suc q)) = 0x06 ∷ replicate q 0 ++ (0x80 ∷ [])

-- the whole string that is absorbed for a message
abbrev pub padded_message : List ℕ → List ℕ
padded_message m = padded pad101 1088 (suffixed m)

zero_bits : (n : ℕ) → bits_of 8 (replicate n 0) ≡ replicate (8 * n) 0
unfolding bits bits_of
zero_bits zero = refl
zero_bits (suc n) = rw (eight-more n, zero_bits n)

-- the bits of the padding bytes are 01 and pad10*1
padding-bits : (q j : ℕ) → j + 4 ≡ 8 * suc q → bits_of 8 (padding (suc q)) ≡ 0 ∷ 1 ∷ 1 ∷ replicate j 0 ++ (1 ∷ [])
unfolding bits bits_of padding
padding-bits zero j e = let k : j ≡ 4 = omega arith in rw k
padding-bits (suc q) j e =
    let a : replicate {A = ℕ} j 0 ≡ replicate 5 0 ++ replicate (8 * q + 7) 0 = zeros 5 (8 * q + 7) j (omega arith) in
    let b : replicate {A = ℕ} (8 * q + 7) 0 ≡ replicate (8 * q) 0 ++ replicate 7 0 = zeros (8 * q) 7 (8 * q + 7) refl in
    rw (a, b, bits-append 8 (replicate q 0) (128 ∷ []), zero_bits q, append_assoc {A = ℕ} (replicate (8 * q) 0) (replicate 7 0) (1 ∷ []))

-- the whole string, as bytes
pub padded-bytes : (m : List ℕ) → padded_message m ≡ bits_of 8 (m ++ padding (136 - length m % 136))
unfolding pad101 padded suffixed
padded-bytes m =
    let n : length (suffixed m) ≡ 8 * length m + 2 = length-append (bits_of 8 m) (0 ∷ 1 ∷ []) ∙ omega (arith, length-bits_of 8 m) in
    let q : ℕ = 135 - length m % 136 in
    let j : ℕ = (1088 - (length (suffixed m) + 2) % 1088) % 1088 in
    let e : 136 - length m % 136 ≡ suc q = omega arith in
    let f : j + 4 ≡ 8 * suc q = omega arith in
    rw (e, bits-append 8 m (padding (suc q)), padding-bits q j f) (append_assoc (bits_of 8 m) (0 ∷ 1 ∷ []) (1 ∷ replicate j 0 ++ (1 ∷ [])))

pub length-padding : (q : ℕ) → length (padding q) ≡ q
unfolding padding
length-padding zero = refl
length-padding (suc zero) = refl
length-padding (suc (suc q)) = ap suc (length-append (replicate q 0) (0x80 ∷ []) ∙ simp length-replicate (omega arith))

-- its length
pub length-padded : (m : List ℕ) → length (padded_message m) ≡ 8 * (length m + (136 - length m % 136))
length-padded m =
    let p : List ℕ = padding (136 - length m % 136) in
    ap length (padded-bytes m) ∙ length-bits_of 8 (m ++ p) ∙ ap (λ (n : ℕ). 8 * n) (length-append m p ∙ omega (arith, length-padding (136 - length m % 136)))

-- a whole block at the front stands before the padding of what is left
pub padded-more : (b m : List ℕ) → length b ≡ 136 → padded_message (b ++ m) ≡ bits_of 8 b ++ padded_message m
padded-more b m long =
    let p : List ℕ = padding (136 - length m % 136) in
    let e : length (b ++ m) % 136 ≡ length m % 136 = omega (arith, length-append b m) in
    padded-bytes (b ++ m) ∙ rw (e, append_assoc b m p) (bits-append 8 b (m ++ p) ∙ ap (λ (q : List ℕ). bits_of 8 b ++ q) (sym (padded-bytes m)))

-- the bytes l and then zeros, closed by 0x06 after l and 0x80 in the last byte, are l and its padding
close_block :
    (l : List ℕ) (q : ℕ) → length l + suc q ≡ 136 →
    set (set (l ++ replicate (suc q) 0) (length l) 6) 135 (bit_or (get_or (set (l ++ replicate (suc q) 0) (length l) 6) 135 0) 128) ≡ l ++ padding (suc q)
unfolding padding
close_block l zero h =
    let e : length l ≡ 135 = omega arith in
    rw (set_at l 0 [] 6 (length l) refl, set_at l 6 [] (bit_or (get_or (l ++ 6 ∷ []) 135 0) 128) 135 e, get_or_at l 6 [] 0 135 e)
close_block l (suc q) h =
    let p : List ℕ = l ++ (6 ∷ replicate q 0) in
    let e : length p ≡ 135 = length-append l (6 ∷ replicate q 0) ∙ simp length-replicate (omega arith) in
    let z : replicate {A = ℕ} (suc q) 0 ≡ replicate q 0 ++ (0 ∷ []) = zeros q 1 (suc q) (omega arith) in
    let f : set (l ++ replicate (suc (suc q)) 0) (length l) 6 ≡ p ++ 0 ∷ [] =
    set_at l 0 (replicate (suc q) 0) 6 (length l) refl ∙ rw z (sym (append_assoc l (6 ∷ replicate q 0) (0 ∷ []))) in
    rw (f, set_at p 0 [] (bit_or (get_or (p ++ 0 ∷ []) 135 0) 128) 135 e, get_or_at p 0 [] 0 135 e)
    (append_assoc l (6 ∷ replicate q 0) (0x80 ∷ []))

-- fewer bytes than a block laid over zeros, and closed, are the whole string
pub last-bits :
    (m : List ℕ) {l : List ℕ} → length m < 136 → l ≡ m →
    let b : List ℕ = set (l ++ drop (length m) (replicate 136 0)) (length m) 6 in
    bits_of 8 (set b 135 (bit_or (get_or b 135 0) 128)) ≡ padded_message m
last-bits m few e =
    let q : ℕ = 135 - length m in
    let n : 136 - length m ≡ suc q = omega arith in
    let k : 136 - length m % 136 ≡ suc q = omega arith in
    rw (e, drop-replicate {X = ℕ} (length m) 136 0, n, close_block m q (omega arith)) (sym (padded-bytes m ∙ ap (λ (j : ℕ). bits_of 8 (m ++ padding j)) k))
