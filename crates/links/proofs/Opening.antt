-- What two sheets that were judged hold, by their counts.
use mathlib.Core.Path.{◌≡◌, ap, sym, ◌∙◌}
use Prim.Native.Nat.{ℕ, ◌+◌, ◌-◌, ◌*◌}
use native.Mathlib.Omega.{arith}
use mathlib.Core.List.{List, [], ◌∷◌}
use mathlib.Core.Bool.{true, false}
use lib.ListN.{length, length-map}
use borrow.Author.Tests.{eq-eqb, ne_eqb}
use Rattle.refusal.specs.Outcome.{Outcome, ok, many_at, list_of}
use Rattle.refusal.proofs.Many.{many-next, many-none, many-long}
use Rattle.primitives.specs.declared.Outpoint.{Outpoint}
use Rattle.primitives.specs.Outpoints.{shown_outpoint, is_null}
use Rattle.sheets.specs.Sheet.{Output, Coin, coin_of, input_at, coin_at, whole, refused, transaction_counts, coin_counts, pair_of, pair_counts}
use Rattle.sheets.specs.declared.Place.{Place}
use Rattle.sheets.proofs.Whole.{transaction-is, coins-are, pair-whole, pair-refused}
use Rattle.sheets.proofs.Counted.{transaction-small, coins-small, inputs_end, outputs-end, outputs-at, transaction-not, coins-not, transaction-holds, coins-hold}
use Rattle.links.specs.Rules.{Verdict, broken, rule, links_from, coinbase, links_of}
use Rattle.links.specs.Verify.{without_outpoints, answer_of, stopped, verify_of}
use Rattle.links.specs.Workers.{inputs_in, outputs_in, coins_in, Sheets}
use Rattle.links.proofs.Walking.{outpoint-is}

pub held : (tx coins : List ℕ) {inputs outputs n z : ℕ} → pair_counts tx coins ≡ whole ((inputs, outputs), (n, z)) → Sheets tx coins inputs outputs n
held tx coins {inputs} {outputs} e =
    let p = pair-whole tx coins e in
    let t = transaction-is tx p.0 in
    let k = coins-are coins p.1 in
    let small = transaction-small tx t.read.1 in
    let small-coins = coins-small coins k.read.1 in
    record {
      ins = t.lists.0;
      outs = t.lists.1;
      cs = k.list;
      ends = (t.middle, t.end, k.end);
      few = omega (arith, inputs_end tx t, outputs-end tx t);
      long = (omega arith, omega arith);
      inputs_read = t.inputs;
      outputs_read = outputs-at tx t;
      coins_read = k.coins;
    }

module _ (tx coins : List ℕ) where
  transaction-refused : {k : ℕ} {vs : List ℕ} {d : ℕ} → transaction_counts tx ≡ refused k vs d → without_outpoints (stopped k vs d) ≡ verify_of tx coins
  unfolding verify_of pair_of
  transaction-refused e = rw (transaction-not tx e)

  coins-refused : {counts : ℕ × ℕ} {k : ℕ} {vs : List ℕ} {d : ℕ} → transaction_counts tx ≡ whole counts → coin_counts coins ≡ refused k vs d → without_outpoints (stopped k vs d) ≡ verify_of tx coins
  unfolding verify_of pair_of
  coins-refused e f = rw (transaction-holds tx (transaction-is tx e), coins-not coins f)

  -- either sheet is refused
  pub pair-not : {k : ℕ} {vs : List ℕ} {d : ℕ} → pair_counts tx coins ≡ refused k vs d → without_outpoints (stopped k vs d) ≡ verify_of tx coins
  pair-not e = pair-refused tx coins e transaction-refused (λ counts. coins-refused)

  pub verify-is : {inputs outputs n z : ℕ} → pair_counts tx coins ≡ whole ((inputs, outputs), (n, z))
      → answer_of (links_of rule (inputs_in tx inputs) (outputs_in tx outputs (4 + inputs * 36)) (coins_in coins n)) ≡ verify_of tx coins
  unfolding verify_of pair_of
  verify-is e =
      let p = pair-whole tx coins e in
      let t = transaction-is tx p.0 in
      let k = coins-are coins p.1 in
      rw (transaction-holds tx t, coins-hold coins k, t.inputs, outputs-at tx t, k.coins)

-- ---- 10 and 11

module _ (tx : List ℕ) (n : ℕ) {xs : List Outpoint} {end : ℕ} (reads : many_at (input_at tx) n 4 ≡ ok xs end) where
  pub no-inputs : n ≡ 0 → false ≡ coinbase (inputs_in tx n)
  unfolding coinbase
  no-inputs z = let e = many-none (input_at tx) {n = n} 4 z reads in rw (reads, e)

  pub null-first : {x : Outpoint} → (n ≡ 0 → ⊥) → x ≡ (shown_outpoint (input_at tx 4)).1 → is_null x ≡ coinbase (inputs_in tx n)
  unfolding coinbase
  null-first {x} h e =
      let w = many-next (input_at tx) {n = n - 1} {n' = n} (omega arith) reads in
      let l : inputs_in tx n ≡ w.first ∷ w.others = ap (λ (o : Outcome (List Outpoint)). list_of o) reads ∙ w.split in
      ap is_null (outpoint-is tx 4 e w.here) ∙ ap coinbase (sym l)

module _ (xs : List Outpoint) (os : List Output) (cs : List Coin) (e : coinbase xs ≡ false) where
  count-differs : {a b : ℕ} → length xs ≡ a → length cs ≡ b → (a ≡ b → ⊥) → broken 11 (a ∷ b ∷ []) ≡ links_of rule xs os cs
  unfolding links_of
  count-differs p q h = rw (e, p, q, ne_eqb _ _ h)

  count_same : length xs ≡ length cs → links_from rule 0 0 0 xs cs os ≡ links_of rule xs os cs
  unfolding links_of
  count_same p = rw (e, eq-eqb _ _ p)

module _ (tx coins : List ℕ) (inputs outputs n : ℕ) (s : Sheets tx coins inputs outputs n) where
  abbrev Links : Verdict
  Links = links_of rule (inputs_in tx inputs) (outputs_in tx outputs (4 + inputs * 36)) (coins_in coins n)

  inputs_long : length (inputs_in tx inputs) ≡ inputs
  inputs_long = ap (λ (o : Outcome (List Outpoint)). length (list_of o)) s.inputs_read ∙ many-long (input_at tx) inputs 4 s.inputs_read

  coins-long : length (coins_in coins n) ≡ n
  coins-long =
      length-map (list_of (many_at (coin_at 1 coins) n 4)) (coin_of coins)
      ∙ ap (λ (o : Outcome (List (Outpoint × Place))). length (list_of o)) s.coins_read
      ∙ many-long (coin_at 1 coins) n 4 s.coins_read

  pub is-coinbase : coinbase (inputs_in tx inputs) ≡ true → broken 10 [] ≡ Links
  unfolding links_of
  is-coinbase e = rw e

  module _ (e : coinbase (inputs_in tx inputs) ≡ false) where
    pub counts-differ : (inputs ≡ n → ⊥) → broken 11 (inputs ∷ n ∷ []) ≡ Links
    counts-differ h = count-differs (inputs_in tx inputs) (outputs_in tx outputs (4 + inputs * 36)) (coins_in coins n) e inputs_long coins-long h

    pub counts-agree : inputs ≡ n → links_from rule 0 0 0 (inputs_in tx inputs) (coins_in coins inputs) (outputs_in tx outputs (4 + inputs * 36)) ≡ Links
    counts-agree h =
        ap (λ (m : ℕ). links_from rule 0 0 0 (inputs_in tx inputs) (coins_in coins m) (outputs_in tx outputs (4 + inputs * 36))) h
        ∙ count_same (inputs_in tx inputs) (outputs_in tx outputs (4 + inputs * 36)) (coins_in coins n) e (inputs_long ∙ h ∙ sym coins-long)
