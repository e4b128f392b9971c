-- FIPS 202, section 3: the permutation KECCAK-p[1600, 24], on lanes of w = 64 bits (l = 6).
-- The convention (3.1.2): A[x, y, z] is the bit of weight 2 ^ z of lane (x, y); a state is the list of its 25 lanes,
-- lane (x, y) at 5 y + x.
-- So lane (x, y) is the bits 64 (5 y + x) to 64 (5 y + x) + 63 of the string S, the lowest first.
use Rattle.std.specs.Prelude.{ℕ, zero, suc, ◌+◌, ◌-◌, ◌*◌, ◌/◌, ◌%◌, ◌^◌, List, [], ◌∷◌, ◌++◌, get_or, set}
use Rattle.std.specs.Int.Bits.{bit_and, bit_or, bit_xor}

-- the lane whose bit z is bit (z - n) mod 64 of x
abbrev pub rot : ℕ → ℕ → ℕ
rot n x = bit_or (x * 2 ^ n % 2 ^ 64) (x / 2 ^ (64 - n))

-- the lane whose bit z is bit z of x, xor 1
abbrev pub inv : ℕ → ℕ
inv x = (2 ^ 64 - 1) - x

-- lane (x mod 5, y mod 5)
unfoldable pub lane : List ℕ → ℕ → ℕ → ℕ
lane a x y = get_or a (5 * (y % 5) + x % 5) 0

-- 3.1.3: Plane(y) is Lane(0, y) ‖ .. ‖ Lane(4, y)
unfoldable pub plane : (ℕ → ℕ → ℕ) → ℕ → List ℕ
plane f y = f 0 y ∷ f 1 y ∷ f 2 y ∷ f 3 y ∷ f 4 y ∷ []

-- 3.1.3: Plane(0) ‖ .. ‖ Plane(4), the state whose lane (x, y) is f x y
unfoldable pub state : (ℕ → ℕ → ℕ) → List ℕ
unfolding plane
state f = plane f 0 ++ plane f 1 ++ plane f 2 ++ plane f 3 ++ plane f 4

-- 3.2.1, Algorithm 1, θ. Step 1: C[x], the parities of the columns at x
unfoldable pub parity : List ℕ → ℕ → ℕ
parity a x = bit_xor (bit_xor (bit_xor (bit_xor (lane a x 0) (lane a x 1)) (lane a x 2)) (lane a x 3)) (lane a x 4)

-- Steps 2 and 3: D[x, z] is C[x - 1, z] xor C[x + 1, z - 1], and A'[x, y] is A[x, y] xor D[x]
unfoldable pub theta : List ℕ → List ℕ
theta a = state (λ x y. bit_xor (lane a x y) (bit_xor (parity a (x + 4)) (rot 1 (parity a (x + 1)))))

-- 3.2.2, Algorithm 2, ρ. Step 3: n turns from t and (x, y) on; a is the standard's A, and b its A'
unfoldable pub walk : ℕ → ℕ → ℕ → ℕ → List ℕ → List ℕ → List ℕ
walk zero t x y a b = b
walk (suc n) t x y a b = walk n (suc t) y ((2 * x + 3 * y) % 5) a (set b (5 * y + x) (rot ((t + 1) * (t + 2) / 2 % 64) (lane a x y)))

-- Steps 1 and 2: lane (0, 0) stays, and the walk starts at (1, 0), for t from 0 to 23
unfoldable pub rho : List ℕ → List ℕ
rho a = walk 24 0 1 0 a a

-- 3.2.3, Algorithm 3, π
unfoldable pub pi : List ℕ → List ℕ
pi a = state (λ x y. lane a (x + 3 * y) x)

-- 3.2.4, Algorithm 4, χ
unfoldable pub chi : List ℕ → List ℕ
chi a = state (λ x y. bit_xor (lane a x y) (bit_and (inv (lane a (x + 1) y)) (lane a (x + 2) y)))

-- 3.2.5, Algorithm 5, rc. Step 3, once: R = 0 ‖ R; R[0], R[4], R[5] and R[6] take R[8] in by xor; R = Trunc8 R
unfoldable pub shifted : List ℕ → List ℕ
shifted r =
    let s : List ℕ = 0 ∷ r in
    bit_xor (get_or s 0 0) (get_or s 8 0)
    ∷ get_or s 1 0
    ∷ get_or s 2 0
    ∷ get_or s 3 0
    ∷ bit_xor (get_or s 4 0) (get_or s 8 0)
    ∷ bit_xor (get_or s 5 0) (get_or s 8 0)
    ∷ bit_xor (get_or s 6 0) (get_or s 8 0)
    ∷ get_or s 7 0
    ∷ []

-- Steps 2 and 3: R after t turns, from 10000000 on
unfoldable pub register : ℕ → List ℕ
register zero = 1 ∷ 0 ∷ 0 ∷ 0 ∷ 0 ∷ 0 ∷ 0 ∷ 0 ∷ []
register (suc t) = shifted (register t)

-- Steps 1 and 4: R[0] after t mod 255 turns
unfoldable pub rc : ℕ → ℕ
rc t = get_or (register (t % 255)) 0 0

-- 3.2.5, Algorithm 6, ι. Steps 2 and 3: constant_up_to n i is RC with RC[2 ^ j - 1] = rc(j + 7 i) for each j below n,
-- and 0 in its other bits
unfoldable pub constant_up_to : ℕ → ℕ → ℕ
constant_up_to zero i = 0
constant_up_to (suc j) i = constant_up_to j i + rc (j + 7 * i) * 2 ^ (2 ^ j - 1)

-- RC of round i, with j from 0 to l = 6
unfoldable pub round_constant : ℕ → ℕ
round_constant i = constant_up_to 7 i

-- Step 4: A'[0, 0] xor a constant k
unfoldable pub constant_added : ℕ → List ℕ → List ℕ
constant_added k a = set a 0 (bit_xor (lane a 0 0) k)

-- ι(A, i)
unfoldable pub iota : ℕ → List ℕ → List ℕ
iota i a = constant_added (round_constant i) a

-- 3.3: Rnd(A, i)
unfoldable pub rnd : ℕ → List ℕ → List ℕ
rnd i a = iota i (chi (pi (rho (theta a))))

-- 3.3, Algorithm 7. Step 2: the rounds 0 to n - 1
unfoldable pub rounds : ℕ → List ℕ → List ℕ
rounds zero a = a
rounds (suc n) a = rnd n (rounds n a)

-- KECCAK-p[1600, 24]: from round 12 + 2 l - 24 = 0 to round 12 + 2 l - 1 = 23
unfoldable pub keccak_p : List ℕ → List ℕ
keccak_p a = rounds 24 a
