-- The bits of a state's own bitmap tell which of its fields are present.
use mathlib.Core.Path.{◌≡◌}
use Prim.Native.Nat.{ℕ, ◌+◌, ◌*◌, ◌/◌, ◌%◌, ◌≤◌}
use native.Mathlib.Omega.{arith}
use mathlib.Core.Bool.{Bool, true, false, not}
use lib.Dec.{eqb}
use Rattle.primitives.specs.Outpoints.{is_null}
use Rattle.name_state.specs.State.{State, bit, bitmap}
use Rattle.name_state.specs.Paper.{amounts_of, times_of}
use Rattle.name_state_codec.specs.Written.{has, held_bytes, times_bytes}
use Rattle.name_state_codec.specs.Workers.{owner_bytes, amount_bytes, time_bytes, own_held, own_times}

one : Bool → ℕ
one true = 1
one false = 0

one-most : (b : Bool) → one b ≤ 1
unfolding one
one-most true = omega arith
one-most false = omega arith

bit-one : (w : ℕ) (b : Bool) → bit w b ≡ w * one b
unfolding one
bit-one w true = omega arith
bit-one w false = omega arith

is_one : (b : Bool) {n : ℕ} → n ≡ one b → eqb n 1 ≡ b
unfolding one
is_one true e = rw e
is_one false e = rw e

module _ (t : State) where
  abbrev b0 : Bool
  b0 = not (is_null t.owner)

  abbrev b1 : Bool
  b1 = not (eqb t.value 0)

  abbrev b2 : Bool
  b2 = not (eqb t.highest 0)

  abbrev b3 : Bool
  b3 = not (eqb t.transfer 0)

  abbrev b4 : Bool
  b4 = not (eqb t.revoked 0)

  abbrev b5 : Bool
  b5 = not (eqb t.claimed 0)

  abbrev b6 : Bool
  b6 = not (eqb t.renewals 0)

  sum : bitmap t ≡ one b0 + 2 * one b1 + 4 * one b2 + 8 * one b3 + 16 * one b4 + 32 * one b5 + 64 * one b6 + 128 * one t.registered + 256 * one t.expired + 512 * one t.weak
  unfolding bitmap
  sum = omega (arith, bit-one 1 b0, bit-one 2 b1, bit-one 4 b2, bit-one 8 b3, bit-one 16 b4, bit-one 32 b5, bit-one 64 b6, bit-one 128 t.registered, bit-one 256 t.expired, bit-one 512 t.weak)

digits : (n a b c d e f g h i j : ℕ) → n ≡ a + 2 * b + 4 * c + 8 * d + 16 * e + 32 * f + 64 * g + 128 * h + 256 * i + 512 * j
    → a ≤ 1 → b ≤ 1 → c ≤ 1 → d ≤ 1 → e ≤ 1 → f ≤ 1 → g ≤ 1 → h ≤ 1 → i ≤ 1 → j ≤ 1
    → (n / 1 % 2 ≡ a) × (n / 2 % 2 ≡ b) × (n / 4 % 2 ≡ c) × (n / 8 % 2 ≡ d) × (n / 16 % 2 ≡ e) × (n / 32 % 2 ≡ f) × (n / 64 % 2 ≡ g) × (n / 128 % 2 ≡ h) × (n / 256 % 2 ≡ i) × (n / 512 % 2 ≡ j)
digits n a b c d e f g h i j s ha hb hc hd he hf hg hh hi hj =
    (omega arith, omega arith, omega arith, omega arith, omega arith, omega arith, omega arith, omega arith, omega arith, omega arith)

-- what the own bitmap has
pub record Has (t : State) : Type 0 where
  pub owner : has 1 (bitmap t) ≡ not (is_null t.owner)
  pub value : has 2 (bitmap t) ≡ not (eqb t.value 0)
  pub highest : has 4 (bitmap t) ≡ not (eqb t.highest 0)
  pub transfer : has 8 (bitmap t) ≡ not (eqb t.transfer 0)
  pub revoked : has 16 (bitmap t) ≡ not (eqb t.revoked 0)
  pub claimed : has 32 (bitmap t) ≡ not (eqb t.claimed 0)
  pub renewals : has 64 (bitmap t) ≡ not (eqb t.renewals 0)
  pub registered : has 128 (bitmap t) ≡ t.registered
  pub expired : has 256 (bitmap t) ≡ t.expired
  pub weak : has 512 (bitmap t) ≡ t.weak

pub own_bits : (t : State) → Has t
own_bits t =
    let d = digits (bitmap t) (one (b0 t)) (one (b1 t)) (one (b2 t)) (one (b3 t)) (one (b4 t)) (one (b5 t)) (one (b6 t)) (one t.registered) (one t.expired) (one t.weak) (sum t)
    (one-most (b0 t)) (one-most (b1 t)) (one-most (b2 t)) (one-most (b3 t)) (one-most (b4 t)) (one-most (b5 t)) (one-most (b6 t)) (one-most t.registered) (one-most t.expired) (one-most t.weak) in
    record {
      owner = is_one (b0 t) d.0;
      value = is_one (b1 t) d.1;
      highest = is_one (b2 t) d.2;
      transfer = is_one (b3 t) d.3;
      revoked = is_one (b4 t) d.4;
      claimed = is_one (b5 t) d.5;
      renewals = is_one (b6 t) d.6;
      registered = is_one t.registered d.7;
      expired = is_one t.expired d.8;
      weak = is_one t.weak d.9;
    }

pub own_held_lem : (t : State) → held_bytes (bitmap t) t ≡ own_held t.owner (amounts_of t)
unfolding held_bytes own_held owner_bytes amount_bytes
own_held_lem t = let h = own_bits t in rw (h.owner, h.value, h.highest)

pub own-times : (t : State) → times_bytes (bitmap t) t ≡ own_times (times_of t)
unfolding times_bytes own_times time_bytes amount_bytes
own-times t = let h = own_bits t in rw (h.transfer, h.revoked, h.claimed, h.renewals)
