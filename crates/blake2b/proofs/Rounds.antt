-- G, the schedule, a round, and the work vector.
use Rattle.std.proofs.Common.{◌≡◌, ℕ, zero, suc, ◌+◌, ◌-◌, ◌/◌, ◌%◌, ◌^◌, ◌<◌, Bool, true, T, ltb, List, [], ◌∷◌, length, get_or, ap, mod-eq_of_lt, arith, lit<, ltb→lt}
use Rattle.std.specs.Int.{w64, rotate_right}
use lib.Bits.{bit_xor}
use Rattle.words.proofs.Table.{both, both_left, both_right}
use Rattle.words.proofs.Entries.{all-entries}
use Rattle.blake2b.specs.Blake2b.{ror, iv, sigma, half, lay, G, word, cols, diags, round, row, rounds, flagged, start}
use Rattle.blake2b.specs.Workers.{Row, column, joined, four, turned, back}

-- the library's rotation is the standard's
turned_is : (r x : ℕ) → 0 < r → r < 64 → rotate_right w64 x r ≡ ror r x
turned_is r x h k =
    let e : r % 64 ≡ r = omega arith in
    let f : (64 - r) % 64 ≡ 64 - r = omega arith in
    rw (e, f)

-- four lines of G, with the sums and the turned words as they were computed
pub half-law :
    (r s a b c d x : ℕ) {d1 b1 : ℕ} → ((0 < r) × (r < 64)) × ((0 < s) × (s < 64)) →
    d1 ≡ rotate_right w64 (bit_xor d (((a + b) % 2 ^ 64 + x) % 2 ^ 64)) r → b1 ≡ rotate_right w64 (bit_xor b ((c + d1) % 2 ^ 64)) s →
    ((a + b) % 2 ^ 64 + x) % 2 ^ 64 ∷ b1 ∷ (c + d1) % 2 ^ 64 ∷ d1 ∷ [] ≡ half r s a b c d x
unfolding half
half-law r s a b c d x p e f =
    let sum : ((a + b) % 2 ^ 64 + x) % 2 ^ 64 ≡ (a + b + x) % 2 ^ 64 = omega arith in
    rw (f, e, turned_is r _ p.0.0 p.0.1, turned_is s _ p.1.0 p.1.1, sum)

-- ---- the schedule: each word number in it is below 16

below16 : List ℕ → Bool
below16 [] = true
below16 (x ∷ xs) = both (ltb x 16) (below16 xs)

rows16 : List (List ℕ) → Bool
rows16 [] = true
rows16 (r ∷ rs) = both (below16 r) (rows16 rs)

in_row : (xs : List ℕ) → T (below16 xs) → Row xs
unfolding below16
in_row [] p i = lit< tt
in_row (x ∷ xs) p zero = ltb→lt x 16 (both_left (ltb x 16) (below16 xs) p)
in_row (x ∷ xs) p (suc i) = in_row xs (both_right (ltb x 16) (below16 xs) p) i

in_table : (t : List (List ℕ)) → T (rows16 t) → (r : ℕ) → Row (get_or t r [])
unfolding rows16
in_table [] p r i = lit< tt
in_table (x ∷ xs) p zero i = in_row x (both_left (below16 x) (rows16 xs) p) i
in_table (x ∷ xs) p (suc r) i = in_table xs (both_right (below16 x) (rows16 xs) p) r i

pub named : (r : ℕ) → Row (row r)
unfolding below16 rows16 row
named r = in_table sigma tt (r % 10)

-- ---- one round

-- four lines of G on a list of four words
abbrev pub on : (r s : ℕ) → List ℕ → ℕ → List ℕ
on r s w x = half r s (get_or w 0 0) (get_or w 1 0) (get_or w 2 0) (get_or w 3 0) x

-- all eight, one after the other
pub eight :
    {w w' p q : List ℕ} {x x' y y' : ℕ} → w ≡ w' → x ≡ x' → p ≡ on 32 24 w x → y ≡ y' → q ≡ on 16 63 p y →
    q ≡ on 16 63 (on 32 24 w' x') y'
eight e f g h k = rw (k, h, g, f, e)

-- G on the four columns
pub four-law :
    (m s : List ℕ) (at : ℕ) (v : List ℕ) → length v ≡ 16 → {q0 q1 q2 q3 : List ℕ} →
    q0 ≡ on 16 63 (on 32 24 (column v 0) (word m s at)) (word m s (at + 1)) →
    q1 ≡ on 16 63 (on 32 24 (column v 1) (word m s (at + 2))) (word m s (at + 3)) →
    q2 ≡ on 16 63 (on 32 24 (column v 2) (word m s (at + 4))) (word m s (at + 5)) →
    q3 ≡ on 16 63 (on 32 24 (column v 3) (word m s (at + 6))) (word m s (at + 7)) →
    joined q0 q1 q2 q3 ≡ four m s at v
unfolding lay G four
four-law m s at v long e0 e1 e2 e3 = rw (e0, e1, e2, e3) (ap (four m s at) (all-entries 16 v long))

pub diags-law : (m s v : List ℕ) → length v ≡ 16 → back (four m s 8 (turned v)) ≡ diags m s v
unfolding lay G four diags
diags-law m s v long = ap (diags m s) (all-entries 16 v long)

-- one round more
pub round-more :
    (m a : List ℕ) (n : ℕ) {v u w : List ℕ} → v ≡ rounds n m a → u ≡ cols m (row n) v → w ≡ diags m (row n) u → w ≡ rounds (suc n) m a
unfolding round rounds
round-more m a n e f g = rw (g, f, e)

-- ---- the work vector: a counter of one word

pub start_is :
    (h : List ℕ) (t x : ℕ) (f : Bool) → t < 2 ^ 64 → x ≡ flagged f (get_or iv 6 0) →
    get_or h 0 0 ∷ get_or h 1 0 ∷ get_or h 2 0 ∷ get_or h 3 0 ∷ get_or h 4 0 ∷ get_or h 5 0 ∷ get_or h 6 0 ∷ get_or h 7 0
    ∷ get_or iv 0 0 ∷ get_or iv 1 0 ∷ get_or iv 2 0 ∷ get_or iv 3 0 ∷ bit_xor t (get_or iv 4 0) ∷ get_or iv 5 0 ∷ x ∷ get_or iv 7 0 ∷ []
    ≡ start h t f
unfolding start
start_is h t x f l e =
    let a : t % 2 ^ 64 ≡ t = mod-eq_of_lt l in
    let b : t / 2 ^ 64 ≡ 0 = omega arith in
    rw (a, b, e)
