-- BLAKE2b (RFC 7693), with no key and a result of 32 bytes, in the order of the RFC's sections.
-- 2.1: words of 64 bits, 12 rounds, blocks of 128 bytes, rotations by 32, 24, 16 and 63; kk = 0, nn = 32. A word is a
-- number below 2 ^ 64.
use Rattle.std.specs.Prelude.{ℕ, zero, suc, ◌+◌, ◌-◌, ◌*◌, ◌/◌, ◌%◌, ◌^◌, Bool, true, false, List, [], ◌∷◌, ◌++◌, length, drop, replicate, bit_or, bit_xor, slice_index, slice_index_or, slice_set}
use Rattle.words.specs.Words.{bytes, lanes}

-- 2.3: x >>> n
abbrev pub ror : ℕ → ℕ → ℕ
ror n x = bit_or (x / 2 ^ n) (x * 2 ^ (64 - n) % 2 ^ 64)

-- 2.5: the first word of the parameter block, p[0] = 0x0101kknn; its other words are 0
abbrev pub parameters : ℕ
parameters = 0x01010020

-- 2.6: IV[0..7]
abbrev pub iv : List ℕ
iv =
    0x6A09E667F3BCC908
    ∷ 0xBB67AE8584CAA73B
    ∷ 0x3C6EF372FE94F82B
    ∷ 0xA54FF53A5F1D36F1
    ∷ 0x510E527FADE682D1
    ∷ 0x9B05688C2B3E6C1F
    ∷ 0x1F83D9ABFB41BD6B
    ∷ 0x5BE0CD19137E2179
    ∷ []

-- 2.7: SIGMA[0..9]
abbrev pub sigma : List (List ℕ)
sigma =
    (0 ∷ 1 ∷ 2 ∷ 3 ∷ 4 ∷ 5 ∷ 6 ∷ 7 ∷ 8 ∷ 9 ∷ 10 ∷ 11 ∷ 12 ∷ 13 ∷ 14 ∷ 15 ∷ [])
    ∷ (14 ∷ 10 ∷ 4 ∷ 8 ∷ 9 ∷ 15 ∷ 13 ∷ 6 ∷ 1 ∷ 12 ∷ 0 ∷ 2 ∷ 11 ∷ 7 ∷ 5 ∷ 3 ∷ [])
    ∷ (11 ∷ 8 ∷ 12 ∷ 0 ∷ 5 ∷ 2 ∷ 15 ∷ 13 ∷ 10 ∷ 14 ∷ 3 ∷ 6 ∷ 7 ∷ 1 ∷ 9 ∷ 4 ∷ [])
    ∷ (7 ∷ 9 ∷ 3 ∷ 1 ∷ 13 ∷ 12 ∷ 11 ∷ 14 ∷ 2 ∷ 6 ∷ 5 ∷ 10 ∷ 4 ∷ 0 ∷ 15 ∷ 8 ∷ [])
    ∷ (9 ∷ 0 ∷ 5 ∷ 7 ∷ 2 ∷ 4 ∷ 10 ∷ 15 ∷ 14 ∷ 1 ∷ 11 ∷ 12 ∷ 6 ∷ 8 ∷ 3 ∷ 13 ∷ [])
    ∷ (2 ∷ 12 ∷ 6 ∷ 10 ∷ 0 ∷ 11 ∷ 8 ∷ 3 ∷ 4 ∷ 13 ∷ 7 ∷ 5 ∷ 15 ∷ 14 ∷ 1 ∷ 9 ∷ [])
    ∷ (12 ∷ 5 ∷ 1 ∷ 15 ∷ 14 ∷ 13 ∷ 4 ∷ 10 ∷ 0 ∷ 7 ∷ 6 ∷ 3 ∷ 9 ∷ 2 ∷ 8 ∷ 11 ∷ [])
    ∷ (13 ∷ 11 ∷ 7 ∷ 14 ∷ 12 ∷ 1 ∷ 3 ∷ 9 ∷ 5 ∷ 0 ∷ 15 ∷ 4 ∷ 8 ∷ 6 ∷ 2 ∷ 10 ∷ [])
    ∷ (6 ∷ 15 ∷ 14 ∷ 9 ∷ 11 ∷ 3 ∷ 0 ∷ 8 ∷ 12 ∷ 2 ∷ 13 ∷ 7 ∷ 1 ∷ 4 ∷ 10 ∷ 5 ∷ [])
    ∷ (10 ∷ 2 ∷ 8 ∷ 4 ∷ 7 ∷ 6 ∷ 1 ∷ 5 ∷ 15 ∷ 11 ∷ 9 ∷ 14 ∷ 3 ∷ 12 ∷ 13 ∷ 0 ∷ [])
    ∷ []

-- 3.1: four lines of G, on the words v[a], v[b], v[c] and v[d], with a word x of the message and two rotations
unfoldable pub half : (r s : ℕ) → (a b c d x : ℕ) → List ℕ
half r s a b c d x =
    let a1 : ℕ = (a + b + x) % 2 ^ 64 in
    let d1 : ℕ = ror r (bit_xor d a1) in
    let c1 : ℕ = (c + d1) % 2 ^ 64 in
    let b1 : ℕ = ror s (bit_xor b c1) in
    a1 ∷ b1 ∷ c1 ∷ d1 ∷ []

-- the four words laid back in their places
unfoldable pub lay : List ℕ → (a b c d : ℕ) → List ℕ → List ℕ
lay v a b c d w = slice_set (slice_set (slice_set (slice_set v a (slice_index w 0)) b (slice_index w 1)) c (slice_index w 2)) d (slice_index w 3)

-- all eight lines: four with x, R1 = 32 and R2 = 24, and the same four with y, R3 = 16 and R4 = 63
unfoldable pub G : List ℕ → (a b c d x y : ℕ) → List ℕ
G v a b c d x y =
    let w : List ℕ = half 32 24 (slice_index v a) (slice_index v b) (slice_index v c) (slice_index v d) x in
    lay v a b c d (half 16 63 (slice_index w 0) (slice_index w 1) (slice_index w 2) (slice_index w 3) y)

-- 3.2: m[s[i]], where s is a row of SIGMA
unfoldable pub word : List ℕ → List ℕ → ℕ → ℕ
word m s i = slice_index m (slice_index s i)

-- the first four lines of a round, on the columns of v
unfoldable pub cols : List ℕ → List ℕ → List ℕ → List ℕ
cols m s v =
    let v0 : List ℕ = G v 0 4 8 12 (word m s 0) (word m s 1) in
    let v1 : List ℕ = G v0 1 5 9 13 (word m s 2) (word m s 3) in
    let v2 : List ℕ = G v1 2 6 10 14 (word m s 4) (word m s 5) in
    G v2 3 7 11 15 (word m s 6) (word m s 7)

-- the last four, on its diagonals
unfoldable pub diags : List ℕ → List ℕ → List ℕ → List ℕ
diags m s v =
    let v0 : List ℕ = G v 0 5 10 15 (word m s 8) (word m s 9) in
    let v1 : List ℕ = G v0 1 6 11 12 (word m s 10) (word m s 11) in
    let v2 : List ℕ = G v1 2 7 8 13 (word m s 12) (word m s 13) in
    G v2 3 4 9 14 (word m s 14) (word m s 15)

unfoldable pub round : List ℕ → List ℕ → List ℕ → List ℕ
round m s v = diags m s (cols m s v)

-- SIGMA[i mod 10]
unfoldable pub row : ℕ → List ℕ
row i = slice_index_or sigma (i % 10) []

-- v after the first n rounds
unfoldable pub rounds : ℕ → List ℕ → List ℕ → List ℕ
rounds zero m v = v
rounds (suc n) m v = round m (row n) (rounds n m v)

-- x with all bits inverted where the flag f is set
abbrev pub flagged : Bool → ℕ → ℕ
flagged true x = bit_xor x 0xFFFFFFFFFFFFFFFF
flagged false x = x

-- v before the rounds: h[0..7] and IV[0..7], with the low and the high word of the counter t in v[12] and v[13];
-- the flag f is true for the last block, and inverts v[14]
unfoldable pub start : List ℕ → ℕ → Bool → List ℕ
start h t f =
    slice_index h 0 ∷ slice_index h 1 ∷ slice_index h 2 ∷ slice_index h 3 ∷ slice_index h 4 ∷ slice_index h 5 ∷ slice_index h 6 ∷ slice_index h 7
    ∷ slice_index iv 0 ∷ slice_index iv 1 ∷ slice_index iv 2 ∷ slice_index iv 3
    ∷ bit_xor (t % 2 ^ 64) (slice_index iv 4) ∷ bit_xor (t / 2 ^ 64) (slice_index iv 5) ∷ flagged f (slice_index iv 6) ∷ slice_index iv 7 ∷ []

-- h[i] ^ v[i] ^ v[i + 8], for i from 0 to 7
abbrev pub folded : List ℕ → List ℕ → List ℕ
folded h v =
    bit_xor (bit_xor (slice_index h 0) (slice_index v 0)) (slice_index v 8)
    ∷ bit_xor (bit_xor (slice_index h 1) (slice_index v 1)) (slice_index v 9)
    ∷ bit_xor (bit_xor (slice_index h 2) (slice_index v 2)) (slice_index v 10)
    ∷ bit_xor (bit_xor (slice_index h 3) (slice_index v 3)) (slice_index v 11)
    ∷ bit_xor (bit_xor (slice_index h 4) (slice_index v 4)) (slice_index v 12)
    ∷ bit_xor (bit_xor (slice_index h 5) (slice_index v 5)) (slice_index v 13)
    ∷ bit_xor (bit_xor (slice_index h 6) (slice_index v 6)) (slice_index v 14)
    ∷ bit_xor (bit_xor (slice_index h 7) (slice_index v 7)) (slice_index v 15)
    ∷ []

unfoldable pub F : List ℕ → List ℕ → ℕ → Bool → List ℕ
F h m t f = folded h (rounds 12 m (start h t f))

-- 3.3: dd, the number of blocks of ll bytes: ll / 128 rounded up, and one for the empty message
unfoldable pub blocks : ℕ → ℕ
blocks zero = 1
blocks (suc n) = (suc n + 127) / 128

-- the message with zeros after it, to whole blocks
unfoldable pub whole_blocks : List ℕ → List ℕ
whole_blocks m = m ++ replicate (128 * blocks (length m) - length m) 0

-- d[i], the sixteen words of a block (2.4: a word is eight bytes, the lowest first)
unfoldable pub block : List ℕ → ℕ → List ℕ
block m i = lanes 16 (drop (128 * i) (whole_blocks m))

-- h before the first block
abbrev pub first : List ℕ
first = slice_set iv 0 (bit_xor (slice_index iv 0) parameters)

-- h after d[0] .. d[n - 1], none of which is the last
unfoldable pub chain : ℕ → List ℕ → List ℕ
chain zero m = first
chain (suc i) m = F (chain i m) (block m i) ((i + 1) * 128) false

-- h after the last block, d[dd - 1]
unfoldable pub final : List ℕ → List ℕ
final m =
    let i : ℕ = blocks (length m) - 1 in
    F (chain i m) (block m i) (length m) true

-- the first 32 bytes of h
abbrev pub digest : List ℕ → List ℕ
digest h = bytes 8 (slice_index h 0) ++ bytes 8 (slice_index h 1) ++ bytes 8 (slice_index h 2) ++ bytes 8 (slice_index h 3)

unfoldable pub blake2b : List ℕ → List ℕ
blake2b m = digest (final m)
