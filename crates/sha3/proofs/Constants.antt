-- The round constants of a table are those of FIPS 202's rule: one test, which antt computes over the table. The
-- register of Algorithm 5 is shifted along with the table, seven turns for each round, so that no turn is computed
-- twice for the next round.
use mathlib.Core.Path.{◌≡◌, refl, ap, ap₂, subst, sym, ◌∙◌}
use mathlib.Core.List.{List, [], ◌∷◌}
use mathlib.Core.Bool.{Bool, true}
use Prim.Native.Nat.{ℕ, zero, suc, ◌+◌, ◌-◌, ◌*◌, ◌%◌, ◌^◌, ◌≤◌, ◌<◌}
use native.Mathlib.Nat.{add-zero, zero-add, suc-add, mod-eq_of_lt, le_of_suc-le-suc, not-suc-le-zero}
use native.Mathlib.Omega.{arith}
use lib.Dec.{T, eqb, eqb→eq}
use lib.ListN.{length, get_or}
use Rattle.std.specs.List.{fold}
use Rattle.sha3.specs.Keccak.{theta, rho, pi, chi, shifted, register, rc, constant_up_to, round_constant, constant_added, iota, rnd, rounds, keccak_p}
use Rattle.words.proofs.Table.{both, both_left, both_right}

pub record RoundConstants (table : List ℕ) : Type 0 where
  pub each : (i : ℕ) → i < 24 → get_or table i 0 ≡ round_constant i

-- the register n turns on
unfoldable pub turned : ℕ → List ℕ → List ℕ
turned zero r = r
turned (suc n) r = shifted (turned n r)

-- constant_up_to n of the round at whose start the register is r
unfoldable pub spelt : ℕ → List ℕ → ℕ
spelt zero r = 0
spelt (suc j) r = spelt j r + get_or (turned j r) 0 0 * 2 ^ (2 ^ j - 1)

-- the test of a table, from a round on at whose start the register is r
unfoldable pub right : List ℕ → List ℕ → Bool
right r [] = true
right r (x ∷ xs) = both (eqb x (spelt 7 r)) (right (turned 7 r) xs)

register-turned : (n t : ℕ) → register (n + t) ≡ turned n (register t)
unfolding turned register
register-turned zero t = rw zero-add
register-turned (suc n) t = rw suc-add (ap shifted (register-turned n t))

spelt_is : (n i : ℕ) → n + 7 * i ≤ 255 → constant_up_to n i ≡ spelt n (register (7 * i))
unfolding spelt constant_up_to rc
spelt_is zero i h = refl
spelt_is (suc j) i h =
    let m : (j + 7 * i) % 255 ≡ j + 7 * i = mod-eq_of_lt (omega arith) in
    ap₂ (λ (a b : ℕ). a + b * 2 ^ (2 ^ j - 1)) (spelt_is j i (omega arith)) (ap (λ (t : ℕ). get_or (register t) 0 0) m ∙ ap (λ (r : List ℕ). get_or r 0 0) (register-turned j (7 * i)))

-- the table's constants are those from round i on
from : (xs : List ℕ) (i : ℕ) → T (right (register (7 * i)) xs) → 7 * (i + length xs) ≤ 255 → (k : ℕ) → k < length xs → get_or xs k 0 ≡ round_constant (i + k)
unfolding right round_constant
from [] i t h k l = absurd (not-suc-le-zero l)
from (x ∷ xs) i t h zero l =
    rw add-zero (eqb→eq x (spelt 7 (register (7 * i))) (both_left (eqb x (spelt 7 (register (7 * i)))) (right (turned 7 (register (7 * i))) xs) t) ∙ sym (spelt_is 7 i (omega arith)))
from (x ∷ xs) i t h (suc k) l =
    let e : 7 + 7 * i ≡ 7 * suc i = omega arith in
    let next : turned 7 (register (7 * i)) ≡ register (7 * suc i) = sym (register-turned 7 (7 * i)) ∙ ap register e in
    let more = subst (λ (r : List ℕ). T (right r xs)) next (both_right (eqb x (spelt 7 (register (7 * i)))) (right (turned 7 (register (7 * i))) xs) t) in
    let place : i + suc k ≡ suc i + k = omega arith in
    rw place (from xs (suc i) more (omega arith) k (le_of_suc-le-suc l))

pub computed : (table : List ℕ) → length table ≡ 24 → T (right (register 0) table) → RoundConstants table
computed table n t = record { each = λ i h. from table 0 t (omega arith) i (omega arith) ∙ ap round_constant (zero-add i) }

-- a round with the table's constant
abbrev pub round_with : List ℕ → ℕ → List ℕ
round_with s rc = constant_added rc (chi (pi (rho (theta s))))

-- the rounds with the constants of a table, from round i on
rounds-from : (a s xs : List ℕ) (i : ℕ) → ((k : ℕ) → k < length xs → get_or xs k 0 ≡ round_constant (i + k)) → s ≡ rounds i a → fold round_with s xs ≡ rounds (i + length xs) a
unfolding iota rnd rounds
rounds-from a s [] i each e = rw add-zero e
rounds-from a s (x ∷ xs) i each e =
    let here : x ≡ round_constant i = each 0 (omega arith) ∙ ap round_constant (add-zero i) in
    let place : i + length (x ∷ xs) ≡ suc i + length xs = omega arith in
    let next = λ (k : ℕ) (l : k < length xs). let turn : i + suc k ≡ suc i + k = omega arith in each (suc k) (omega arith) ∙ ap round_constant turn in
    rw place (rounds-from a (round_with s x) xs (suc i) next (rw (here, e)))

pub all-rounds :
    (a : List ℕ) {r xs table : List ℕ} → r ≡ fold round_with a xs → xs ≡ table → length table ≡ 24 → T (right (register 0) table) → r ≡ keccak_p a
unfolding rounds keccak_p
all-rounds a {r} {xs} {table} e f n t =
    let all : 0 + length table ≡ 24 = omega arith in
    let each = λ (k : ℕ) (l : k < length table). (computed table n t).each k (omega arith) ∙ ap round_constant (sym (zero-add k)) in
    e ∙ ap (fold round_with a) f ∙ rounds-from a a table 0 each refl ∙ ap (λ (k : ℕ). rounds k a) all
