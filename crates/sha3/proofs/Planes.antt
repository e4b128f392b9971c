-- Lanes and planes of the state, as the code reads and makes them.
use mathlib.Core.Path.{◌≡◌, ap, ap₂}
use mathlib.Core.List.{List, [], ◌∷◌, ◌++◌}
use Prim.Native.Nat.{ℕ, ◌+◌, ◌*◌, ◌<◌}
use native.Mathlib.Omega.{arith}
use lib.ListN.{length, get_or}
use Rattle.words.proofs.Entries.{entries, all-entries}
use Rattle.std.specs.Int.{w64, rotate_left}
use Rattle.sha3.specs.Keccak.{lane, plane, state, walk, rho, pi}

-- lane (x, y) by its place
pub lane-is : (a : List ℕ) (x y i : ℕ) → x < 5 → y < 5 → i ≡ 5 * y + x → get_or a i 0 ≡ lane a x y
unfolding lane
lane-is a x y i h k e = ap (λ (n : ℕ). get_or a n 0) (omega arith)

-- five planes, told lane by lane
pub told :
    (p q r s t : List ℕ) → length p ≡ 5 → length q ≡ 5 → length r ≡ 5 → length s ≡ 5 → length t ≡ 5 →
    entries 0 5 p ++ entries 0 5 q ++ entries 0 5 r ++ entries 0 5 s ++ entries 0 5 t ≡ p ++ q ++ r ++ s ++ t
told p q r s t e f g h k =
    ap₂ (λ (x y : List ℕ). x ++ y)
    (ap₂ (λ (x y : List ℕ). x ++ y)
    (ap₂ (λ (x y : List ℕ). x ++ y) (ap₂ (λ (x y : List ℕ). x ++ y) (all-entries 5 p e) (all-entries 5 q f)) (all-entries 5 r g))
    (all-entries 5 s h))
    (all-entries 5 t k)

-- the lanes turned and moved: a table of rho and pi
moved : List ℕ → List ℕ
moved a =
    get_or a 0 0 ∷ rotate_left w64 (get_or a 6 0) 44 ∷ rotate_left w64 (get_or a 12 0) 43 ∷ rotate_left w64 (get_or a 18 0) 21 ∷ rotate_left w64 (get_or a 24 0) 14
    ∷ rotate_left w64 (get_or a 3 0) 28 ∷ rotate_left w64 (get_or a 9 0) 20 ∷ rotate_left w64 (get_or a 10 0) 3 ∷ rotate_left w64 (get_or a 16 0) 45
    ∷ rotate_left w64 (get_or a 22 0) 61 ∷ rotate_left w64 (get_or a 1 0) 1 ∷ rotate_left w64 (get_or a 7 0) 6 ∷ rotate_left w64 (get_or a 13 0) 25
    ∷ rotate_left w64 (get_or a 19 0) 8 ∷ rotate_left w64 (get_or a 20 0) 18 ∷ rotate_left w64 (get_or a 4 0) 27 ∷ rotate_left w64 (get_or a 5 0) 36
    ∷ rotate_left w64 (get_or a 11 0) 10 ∷ rotate_left w64 (get_or a 17 0) 15 ∷ rotate_left w64 (get_or a 23 0) 56 ∷ rotate_left w64 (get_or a 2 0) 62
    ∷ rotate_left w64 (get_or a 8 0) 55 ∷ rotate_left w64 (get_or a 14 0) 39 ∷ rotate_left w64 (get_or a 15 0) 41 ∷ rotate_left w64 (get_or a 21 0) 2 ∷ []

moved_is : (a : List ℕ) → length a ≡ 25 → moved a ≡ pi (rho a)
unfolding moved lane plane state walk rho pi
moved_is a long = ap (λ (l : List ℕ). pi (rho l)) (all-entries 25 a long)

pub each-moved :
    (a : List ℕ) → length a ≡ 25 → {r1 r2 r3 r4 r5 r6 r7 r8 r9 r10 r11 r12 r13 r14 r15 r16 r17 r18 r19 r20 r21 r22 r23 r24 : ℕ} →
    r1 ≡ rotate_left w64 (get_or a 6 0) 44 → r2 ≡ rotate_left w64 (get_or a 12 0) 43 → r3 ≡ rotate_left w64 (get_or a 18 0) 21 →
    r4 ≡ rotate_left w64 (get_or a 24 0) 14 → r5 ≡ rotate_left w64 (get_or a 3 0) 28 → r6 ≡ rotate_left w64 (get_or a 9 0) 20 →
    r7 ≡ rotate_left w64 (get_or a 10 0) 3 → r8 ≡ rotate_left w64 (get_or a 16 0) 45 → r9 ≡ rotate_left w64 (get_or a 22 0) 61 →
    r10 ≡ rotate_left w64 (get_or a 1 0) 1 → r11 ≡ rotate_left w64 (get_or a 7 0) 6 → r12 ≡ rotate_left w64 (get_or a 13 0) 25 →
    r13 ≡ rotate_left w64 (get_or a 19 0) 8 → r14 ≡ rotate_left w64 (get_or a 20 0) 18 → r15 ≡ rotate_left w64 (get_or a 4 0) 27 →
    r16 ≡ rotate_left w64 (get_or a 5 0) 36 → r17 ≡ rotate_left w64 (get_or a 11 0) 10 → r18 ≡ rotate_left w64 (get_or a 17 0) 15 →
    r19 ≡ rotate_left w64 (get_or a 23 0) 56 → r20 ≡ rotate_left w64 (get_or a 2 0) 62 → r21 ≡ rotate_left w64 (get_or a 8 0) 55 →
    r22 ≡ rotate_left w64 (get_or a 14 0) 39 → r23 ≡ rotate_left w64 (get_or a 15 0) 41 → r24 ≡ rotate_left w64 (get_or a 21 0) 2 →
    get_or a 0 0 ∷ r1 ∷ r2 ∷ r3 ∷ r4 ∷ r5 ∷ r6 ∷ r7 ∷ r8 ∷ r9 ∷ r10 ∷ r11 ∷ r12 ∷ r13 ∷ r14 ∷ r15 ∷ r16 ∷ r17 ∷ r18 ∷ r19 ∷ r20 ∷ r21 ∷ r22 ∷ r23 ∷ r24 ∷ [] ≡ pi (rho a)
unfolding moved
each-moved a long e1 e2 e3 e4 e5 e6 e7 e8 e9 e10 e11 e12 e13 e14 e15 e16 e17 e18 e19 e20 e21 e22 e23 e24 =
    rw (e1, e2, e3, e4, e5, e6, e7, e8, e9, e10, e11, e12, e13, e14, e15, e16, e17, e18, e19, e20, e21, e22, e23, e24) (moved_is a long)
