-- What sheets that were judged hold, by their counts, and that a judgement refuses whatever is asked of the sheet.
use mathlib.Core.Path.{◌≡◌, refl, ap, sym, ◌∙◌}
use Prim.Native.Nat.{ℕ, zero, suc, ◌+◌, ◌*◌, ◌^◌, ◌≤◌, ◌<◌}
use native.Mathlib.Omega.{arith}
use mathlib.Core.List.{List, map}
use lib.ListN.{length}
use Rattle.refusal.specs.Outcome.{Outcome, ok, err, many_at}
use Rattle.refusal.proofs.Many.{many-next}
use Rattle.primitives.specs.declared.Outpoint.{Outpoint}
use Rattle.sheets.specs.Sheet.{output_of, coin_of, input_at, place_at, coin_at, ledger_at, transaction_at, coins_at, whole, refused, judged, transaction_of, coins_of, transaction_counts, coin_counts}
use Rattle.sheets.specs.declared.Place.{Place}
use Rattle.sheets.proofs.Reading.{input-moves, place_read}
use Rattle.sheets.proofs.Whole.{TransactionIs, CoinsAre, sheet-read}

-- ---- where lists end that were read

module _ (s : List ℕ) (big : length s < 2 ^ 64) (most : ℕ) (within : length s ≤ most) where
  -- inputs take 36 bytes each
  inputs-move : (n at : ℕ) {xs : List Outpoint} {end : ℕ} → at ≤ most → many_at (input_at s) n at ≡ ok xs end → (end ≡ at + n * 36) × (end ≤ most)
  unfolding many_at
  inputs-move zero at {xs} {end} h e = let z : at ≡ end = cc in (omega arith, omega arith)
  inputs-move (suc n) at {xs} {end} h e =
      let w = many-next (input_at s) {n = n} {n' = suc n} refl e in
      let o = input-moves s at big w.here in
      let rest = inputs-move n w.next (omega (arith, o)) w.rest in
      (omega (arith, o, rest), rest.1)

  -- outputs take a byte at least
  places-move : (side n at : ℕ) {ps : List Place} {end : ℕ} → at ≤ most → many_at (place_at side s) n at ≡ ok ps end → (at + n ≤ end) × (end ≤ most)
  unfolding many_at
  places-move side zero at {ps} {end} h e = let z : at ≡ end = cc in (omega arith, omega arith)
  places-move side (suc n) at {ps} {end} h e =
      let w = many-next (place_at side s) {n = n} {n' = suc n} refl e in
      let o = place_read s big side at w.here in
      let rest = places-move side n w.next (omega (arith, o.ends)) w.rest in
      (omega (arith, o.later, rest), rest.1)

-- ---- sheets that were judged

pub transaction-small : (tx : List ℕ) {t : List Outpoint × List Place} {q : ℕ} → transaction_at tx ≡ ok t q → length tx ≤ 16777216
unfolding transaction_at
transaction-small tx e = (sheet-read 0 tx (λ head next. ledger_at tx head.counts next) e).small

pub coins-small : (coins : List ℕ) {cs : List (Outpoint × Place)} {q : ℕ} → coins_at coins ≡ ok cs q → length coins ≤ 16777216
unfolding coins_at
coins-small coins e = (sheet-read 1 coins (λ head next. many_at (coin_at head.version coins) head.counts.0 next) e).small

module _ (tx : List ℕ) {inputs outputs : ℕ} (t : TransactionIs tx (inputs, outputs)) where
  pub inputs_end : (t.middle ≡ 4 + inputs * 36) × (t.middle ≤ 4 + length tx)
  inputs_end = let small = transaction-small tx t.read.1 in inputs-move tx (omega arith) (4 + length tx) (omega arith) inputs 4 (omega arith) t.inputs

  pub outputs-end : (t.middle + outputs ≤ t.end) × (t.end ≤ 4 + length tx)
  outputs-end = let small = transaction-small tx t.read.1 in places-move tx (omega arith) (4 + length tx) (omega arith) 0 outputs t.middle inputs_end.1 t.outputs

  pub outputs-at : many_at (place_at 0 tx) outputs (4 + inputs * 36) ≡ ok t.lists.1 t.end
  outputs-at = ap (many_at (place_at 0 tx) outputs) (sym inputs_end.0) ∙ t.outputs

-- a judgement refuses whatever is asked of the sheet
refuses : {A B C : Type 0} (side : ℕ) (f : A → B) (g : A → C) (o : Outcome A) {k : ℕ} {vs : List ℕ} {d : ℕ} → judged side f o ≡ refused k vs d → judged side g o ≡ refused k vs d
refuses side f g (ok a end) {k} {vs} {d} e = absurd cc
refuses side f g (err k vs p) {k = k'} {vs = vs'} {d = d} e =
    let a : k ≡ k' = cc in
    let b : vs ≡ vs' = cc in
    let c : side ≡ d = cc in
    rw (a, b, c)

pub transaction-not : (tx : List ℕ) {k : ℕ} {vs : List ℕ} {d : ℕ} → transaction_counts tx ≡ refused k vs d → transaction_of tx ≡ refused k vs d
unfolding transaction_counts transaction_of
transaction-not tx e =
    refuses 0 (λ (t : List Outpoint × List Place). (length t.0, length t.1)) (λ (t : List Outpoint × List Place). record { inputs = t.0; outputs = map (output_of tx) t.1 }) (transaction_at tx) e

pub coins-not : (coins : List ℕ) {k : ℕ} {vs : List ℕ} {d : ℕ} → coin_counts coins ≡ refused k vs d → coins_of coins ≡ refused k vs d
unfolding coin_counts coins_of
coins-not coins e = refuses 1 (λ (cs : List (Outpoint × Place)). (length cs, 0)) (map (coin_of coins)) (coins_at coins) e

pub transaction-holds : (tx : List ℕ) {counts : ℕ × ℕ} (t : TransactionIs tx counts) → transaction_of tx ≡ whole (record { inputs = t.lists.0; outputs = map (output_of tx) t.lists.1 })
unfolding transaction_of
transaction-holds tx t = rw t.read.1

pub coins-hold : (coins : List ℕ) {n : ℕ} (k : CoinsAre coins n) → coins_of coins ≡ whole (map (coin_of coins) k.list)
unfolding coins_of
coins-hold coins k = rw k.read.1
