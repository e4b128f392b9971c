-- FIPS 202, sections 4 to 6: SHA3-256, on strings of bits. A bit is 0 or 1, a string of bits is the list of them, and a
-- message is the list of its bytes.
use Rattle.std.specs.Prelude.{ℕ, zero, suc, ◌+◌, ◌-◌, ◌*◌, ◌/◌, ◌%◌, List, [], ◌∷◌, ◌++◌, length, take, drop, replicate}
use Rattle.std.specs.Int.Bits.{bit_xor}
use Rattle.sha3.specs.Keccak.{keccak_p}

-- the n lowest bits of a number, the lowest first
unfoldable pub bits : ℕ → ℕ → List ℕ
bits zero v = []
bits (suc n) v = v % 2 ∷ bits n (v / 2)

-- the number that bits make, the lowest first
unfoldable pub number : List ℕ → ℕ
number [] = 0
number (b ∷ bs) = b + 2 * number bs

-- numbers as the string of their w bits each: bytes with w = 8 (B.1, Algorithm 10), lanes with w = 64 (3.1.3)
unfoldable pub bits_of : ℕ → List ℕ → List ℕ
bits_of w [] = []
bits_of w (v ∷ vs) = bits w v ++ bits_of w vs

-- and back, the first n numbers of w bits each: bytes with w = 8 (B.1, Algorithm 11), lanes with w = 64 (3.1.2)
unfoldable pub packed : ℕ → ℕ → List ℕ → List ℕ
packed w zero p = []
packed w (suc n) p = number (take w p) ∷ packed w n (drop w p)

-- 5.1, Algorithm 9: pad10*1(x, m) is 1 ‖ 0^j ‖ 1, where j = (- m - 2) mod x
unfoldable pub pad101 : ℕ → ℕ → List ℕ
pad101 x m = 1 ∷ replicate ((x - (m + 2) % x) % x) 0 ++ (1 ∷ [])

-- S ⊕ (P ‖ 0^c), lane by lane: the lanes of S from its first on take in those of P
unfoldable pub mixed : List ℕ → List ℕ → List ℕ
mixed [] p = []
mixed (s ∷ ss) [] = s ∷ ss
mixed (s ∷ ss) (p ∷ ps) = bit_xor s p ∷ mixed ss ps

-- 4, Algorithm 8, SPONGE[f, pad, r](N, d). Step 1: P = N ‖ pad(r, len(N))
unfoldable pub padded : (ℕ → ℕ → List ℕ) → ℕ → List ℕ → List ℕ
padded pad r n = n ++ pad r (length n)

-- Step 6, once: S = f(S ⊕ (P₀ ‖ 0^c)), where P₀ is the first r bits of p, taken as r / 64 lanes
unfoldable pub block : (List ℕ → List ℕ) → ℕ → List ℕ → List ℕ → List ℕ
block f r s p = f (mixed s (packed 64 (r / 64) p))

-- Steps 4 and 6: the first n strings of r bits of p, from the state s on
unfoldable pub absorbed : (List ℕ → List ℕ) → ℕ → ℕ → List ℕ → List ℕ → List ℕ
absorbed f r zero s p = s
absorbed f r (suc n) s p = absorbed f r n (block f r s p) (drop r p)

-- Steps 2 and 5: all n = len(P) / r strings, from S = 0^1600 on. Steps 7 to 9: Trunc_d(S), where d is at most r, so
-- that step 9 returns at its first turn
unfoldable pub sponge : (List ℕ → List ℕ) → (ℕ → ℕ → List ℕ) → ℕ → List ℕ → ℕ → List ℕ
sponge f pad r n d =
    let p : List ℕ = padded pad r n in
    take d (bits_of 64 (absorbed f r (length p / r) (replicate 25 0) p))

-- 5.2: KECCAK[c] = SPONGE[KECCAK-p[1600, 24], pad10*1, 1600 - c]
unfoldable pub keccak : ℕ → List ℕ → ℕ → List ℕ
keccak c n d = sponge keccak_p pad101 (1600 - c) n d

-- 6.1: M ‖ 01, where M is the bits of a message of whole bytes
unfoldable pub suffixed : List ℕ → List ℕ
suffixed m = bits_of 8 m ++ (0 ∷ 1 ∷ [])

-- 6.1: SHA3-256(M) = KECCAK[512](M ‖ 01, 256), as 32 bytes
unfoldable pub sha3 : List ℕ → List ℕ
sha3 m = packed 8 32 (keccak 512 (suffixed m) 256)
