-- The inputs, one after the other: positions in the sheets stand for what is left of the lists.
use mathlib.Core.Path.{◌≡◌, refl, ap, ap₂, sym, subst, ◌∙◌}
use Prim.Native.Nat.{ℕ, zero, suc, ◌+◌, ◌-◌, ◌*◌, ◌^◌, ◌≤◌, ◌<◌}
use native.Mathlib.Omega.{arith}
use native.Mathlib.Numerals.{add-one}
use mathlib.Core.List.{List, [], ◌∷◌, map}
use mathlib.Core.Bool.{Bool, true, false, not, ◌&&◌}
use lib.Dec.{eqb}
use lib.Pointwise.{pointwise}
use Rattle.std.proofs.lemmas.Bool.{not-false, not-true}
use Rattle.primitives.proofs.Equal.{equal}
use lib.ListN.{length}
use Rattle.std.specs.Prelude.{None}
use Rattle.std.specs.Int.{from_bool}
use Rattle.refusal.specs.Outcome.{Outcome, ok, many_at}
use Rattle.refusal.proofs.Many.{Next, many-next, many-none}
use Rattle.primitives.specs.declared.Outpoint.{Outpoint}
use Rattle.primitives.specs.Outpoints.{same_outpoint, shown_outpoint}
use Rattle.covenants.specs.Kind.{is_name}
use Rattle.sheets.specs.Sheet.{Output, output_of, coin_of, input_at, place_at, gap, coin_at}
use Rattle.sheets.specs.declared.Place.{Place}
use Rattle.sheets.proofs.Reading.{CoinRead, coin-read, input-moves}
use Rattle.links.specs.Rules.{rule, one, partner_in, others, Verdict, linked, broken, differs, unpaired, links_from}
use Rattle.checks.specs.Checks.{Step, passes, breaks}
use Rattle.checks.specs.Paper.{partner_of}
use Rattle.links.specs.Workers.{outputs_in, Outputs, made_at, partner_at, moves, stops, turned, turn_at}

-- ---- partners and outpoints

pub partner-none : (tx : List ℕ) (at : ℕ) {left : ℕ} → left ≡ 0 → record { partner = None; next = at } ≡ partner_at left tx at
unfolding partner_at
partner-none tx at e = rw e

pub partner-is : (tx : List ℕ) (at : ℕ) {left : ℕ} {o : Outcome Place} → (left ≡ 0 → ⊥) → place_at 0 tx at ≡ o → made_at at o ≡ partner_at left tx at
unfolding partner_at
partner-is tx at {left} h e =
    let k : left ≡ suc (left - 1) = omega arith in
    rw (k, e)

-- the outpoint that is handed out is the one that was read
pub outpoint-is : (s : List ℕ) (at : ℕ) {x y : Outpoint} {next : ℕ} → x ≡ (shown_outpoint (input_at s at)).1 → input_at s at ≡ ok y next → x ≡ y
outpoint-is s at e f = e ∙ ap (λ (o : Outcome Outpoint). (shown_outpoint o).1) f

-- what the code's `!=` of outpoints says
module _ (x y : Outpoint) {differ : Bool} (is : differ ≡ not (pointwise eqb x.transaction_hash.0 y.transaction_hash.0 && eqb x.index y.index)) where
  pub same : differ ≡ false → same_outpoint x y ≡ true
  same e = sym (equal x y) ∙ not-false _ (sym is ∙ e)

  pub other : differ ≡ true → same_outpoint x y ≡ false
  other e = sym (equal x y) ∙ not-true _ (sym is ∙ e)

pub counted : (b : Bool) → from_bool b ≡ one b
counted true = refl
counted false = refl

one-small : (b : Bool) → one b ≤ 1
one-small true = omega arith
one-small false = omega arith

-- ---- one input, on lists

module _ (coins : List ℕ) (i outs names : ℕ) (x : Outpoint) (xs : List Outpoint) (c : Outpoint × Place) (cs : List (Outpoint × Place)) (os : List Output) where
  abbrev Here : Verdict
  Here = links_from rule i outs names (x ∷ xs) (map (coin_of coins) (c ∷ cs)) os

  turn-differs : same_outpoint x c.0 ≡ false → Here ≡ differs i x c.0
  unfolding links_from
  turn-differs e = rw e

  turn_stopped : {k : ℕ} {vs : List ℕ} → same_outpoint x c.0 ≡ true → rule i (output_of coins c.1) (partner_in os) ≡ breaks k vs → Here ≡ broken k vs
  unfolding links_from
  turn_stopped e g = rw (e, g)

  turn-passed : {l : Bool} → same_outpoint x c.0 ≡ true → rule i (output_of coins c.1) (partner_in os) ≡ passes l
      → Here ≡ links_from rule (suc i) (outs + one l) (names + one (is_name c.1.kind)) xs (map (coin_of coins) cs) (others os)
  unfolding links_from
  turn-passed e g = rw (e, g)

-- the partner is the first of the outputs that are left, and after it stand the others
record Paired (tx : List ℕ) (left at : ℕ) (ps : List Place) : Type 0 where
  rest : List Place
  end : ℕ
  pairs : partner_in (map (output_of tx) ps) ≡ partner_of tx (partner_at left tx at).partner
  reads : many_at (place_at 0 tx) (left - 1) (partner_at left tx at).next ≡ ok rest end
  tail : map (output_of tx) rest ≡ others (map (output_of tx) ps)

paired : (tx : List ℕ) (left at : ℕ) {ps : List Place} {end : ℕ} → many_at (place_at 0 tx) left at ≡ ok ps end → Paired tx left at ps
unfolding partner_at many_at
paired tx zero at {ps} {end} e =
    let z = many-none (place_at 0 tx) {n = zero} at refl e in
    record { rest = []; end = at; pairs = rw z; reads = refl; tail = rw z }
paired tx (suc k) at {ps} {end} e =
    let w = many-next (place_at 0 tx) {n = k} {n' = suc k} refl e in
    let z : suc k - 1 ≡ k = omega arith in
    record {
      rest = w.others;
      end = end;
      pairs = rw (w.split, w.here);
      reads = rw (z, w.here) w.rest;
      tail = ap (λ (l : List Place). others (map (output_of tx) l)) (sym w.split);
    }

-- what one turn tells
turned-stops : (s : Step) (m : Bool) (coin output : ℕ) {k : ℕ} {vs : List ℕ} → turned s m coin output ≡ stops k vs → s ≡ breaks k vs
turned-stops (passes l) m coin output e = let z : ◌≡◌ {A = ℕ} 0 1 = cc in absurd (omega arith)
turned-stops (breaks k vs) m coin output e = cc

turned-moves : (s : Step) (m : Bool) (coin output : ℕ) {m' l : Bool} {coin' output' : ℕ} → turned s m coin output ≡ moves l m' coin' output'
    → (s ≡ passes l) × (m ≡ m') × (coin ≡ coin') × (output ≡ output')
turned-moves (passes l) m coin output e = (cc, cc, cc, cc)
turned-moves (breaks k vs) m coin output {l = l} e = let z : ◌≡◌ {A = ℕ} 0 1 = cc in absurd (omega arith)

turn_is : (tx coins : List ℕ) (i coin output left : ℕ) {spent : Place} {next : ℕ} → place_at 1 coins (coin + 36 + gap 1) ≡ ok spent next
    → turn_at tx coins i coin output left ≡ turned (rule i (output_of coins spent) (partner_of tx (partner_at left tx output).partner)) (is_name spent.kind) next (partner_at left tx output).next
unfolding turn_at
turn_is tx coins i coin output left e = rw e

-- ---- the walk

-- after i inputs: what is left gives the whole
pub record Walking (tx coins : List ℕ) (n outputs i outs names a b p : ℕ) (whole : Verdict) : Type 0 where
  pub bound : i ≤ n
  pub few : 4 + n * 36 + outputs < 2 ^ 32
  pub long : (length tx < 2 ^ 64) × (length coins < 2 ^ 64)
  pub little : (outs ≤ i) × (names ≤ i)
  pub xs : List Outpoint
  pub ps : List Place
  pub cs : List (Outpoint × Place)
  pub ends : ℕ × ℕ × ℕ
  pub inputs : many_at (input_at tx) (n - i) a ≡ ok xs ends.0
  pub outputs-left : many_at (place_at 0 tx) (outputs - i) p ≡ ok ps ends.1
  pub coins-left : many_at (coin_at 1 coins) (n - i) b ≡ ok cs ends.2
  pub rests : links_from rule i outs names xs (map (coin_of coins) cs) (map (output_of tx) ps) ≡ whole

module _ (tx coins : List ℕ) (n outputs : ℕ) {i outs names a b p : ℕ} {whole : Verdict} (r : Walking tx coins n outputs i outs names a b p whole) where
  -- all inputs passed: only outputs are left
  module _ (h : n ≤ i) where
    all_passed : i ≡ n
    all_passed = omega (arith, r.bound)

    pub leftover : Outputs tx (outputs - n) p
    leftover = subst (λ (m : ℕ). Outputs tx (outputs - m) p) all_passed (r.ps, r.ends.1, r.outputs-left)

    pub ended : unpaired n (linked n outs names) (outputs_in tx (outputs - n) p) ≡ whole
    unfolding links_from
    ended =
        let k : i ≡ n = all_passed in
        let z : n - i ≡ 0 = omega arith in
        let none : r.xs ≡ [] = many-none (input_at tx) {n = n - i} a z r.inputs in
        let left : many_at (place_at 0 tx) (outputs - n) p ≡ ok r.ps r.ends.1 = rw k at r.outputs-left in
        rw left (rw (none, k) at r.rests)

  module _ (h : i < n) where
    first-input : Next (input_at tx) (n - (i + 1)) a r.xs r.ends.0
    first-input = many-next (input_at tx) {n = n - (i + 1)} {n' = n - i} (omega arith) r.inputs

    first-coin : Next (coin_at 1 coins) (n - (i + 1)) b r.cs r.ends.2
    first-coin = many-next (coin_at 1 coins) {n = n - (i + 1)} {n' = n - i} (omega arith) r.coins-left

    coin-parts : CoinRead 1 coins b first-coin.first first-coin.next
    coin-parts = coin-read 1 coins b first-coin.here

    input-ends : (first-input.next ≡ a + 36) × (first-input.next ≤ length tx)
    input-ends = input-moves tx a r.long.0 first-input.here

    coin-middle : (coin-parts.middle ≡ b + 36) × (coin-parts.middle ≤ length coins)
    coin-middle = input-moves coins b r.long.1 coin-parts.outpoint

    pub bounds : (a + 36 ≤ length tx) × (b + 36 ≤ length coins)
    bounds = (omega (arith, input-ends), omega (arith, coin-middle))

    spent : place_at 1 coins (b + 36 + gap 1) ≡ ok first-coin.first.1 first-coin.next
    spent = ap (λ (n : ℕ). place_at 1 coins (n + gap 1)) (sym coin-middle.0) ∙ coin-parts.output

    module _ {x y : Outpoint} (ex : x ≡ (shown_outpoint (input_at tx a)).1) (ey : y ≡ (shown_outpoint (input_at coins b)).1) where
      x-is : x ≡ first-input.first
      x-is = outpoint-is tx a ex first-input.here

      y-is : y ≡ first-coin.first.0
      y-is = outpoint-is coins b ey coin-parts.outpoint

      same-is : same_outpoint first-input.first first-coin.first.0 ≡ same_outpoint x y
      same-is = ap₂ same_outpoint (sym x-is) (sym y-is)

      here : links_from rule i outs names (first-input.first ∷ first-input.others) (map (coin_of coins) (first-coin.first ∷ first-coin.others)) (map (output_of tx) r.ps) ≡ whole
      here = ap₂ (λ (X : List Outpoint) (C : List (Outpoint × Place)). links_from rule i outs names X (map (coin_of coins) C) (map (output_of tx) r.ps)) (sym first-input.split) (sym first-coin.split) ∙ r.rests

      pub differing : same_outpoint x y ≡ false → differs i x y ≡ whole
      differing e =
          ap₂ (differs i) x-is y-is
          ∙ sym (turn-differs coins i outs names first-input.first first-input.others first-coin.first first-coin.others (map (output_of tx) r.ps) (same-is ∙ e))
          ∙ here

      module _ (eqs : same_outpoint x y ≡ true) where
        pair : Paired tx (outputs - i) p r.ps
        pair = paired tx (outputs - i) p r.outputs-left

        rule-is : rule i (output_of coins first-coin.first.1) (partner_in (map (output_of tx) r.ps))
            ≡ rule i (output_of coins first-coin.first.1) (partner_of tx (partner_at (outputs - i) tx p).partner)
        rule-is = ap (rule i (output_of coins first-coin.first.1)) pair.pairs

        pub stopped : {k : ℕ} {vs : List ℕ} → turn_at tx coins i b p (outputs - i) ≡ stops k vs → broken k vs ≡ whole
        stopped t =
            let s = turned-stops _ _ _ _ (sym (turn_is tx coins i b p (outputs - i) spent) ∙ t) in
            sym (turn_stopped coins i outs names first-input.first first-input.others first-coin.first first-coin.others (map (output_of tx) r.ps) (same-is ∙ eqs) (rule-is ∙ s))
            ∙ here

        pub more : {l m : Bool} {coin output outs' names' : ℕ} → turn_at tx coins i b p (outputs - i) ≡ moves l m coin output → outs' ≡ outs + one l → names' ≡ names + one m
            → Walking tx coins n outputs (i + 1) outs' names' (a + 36) coin output whole
        more {l} {m} {coin} {output} {outs'} {names'} t u v =
            let s = turned-moves _ _ _ _ (sym (turn_is tx coins i b p (outputs - i) spent) ∙ t) in
            let w = turn-passed coins i outs names first-input.first first-input.others first-coin.first first-coin.others (map (output_of tx) r.ps) (same-is ∙ eqs) (rule-is ∙ s.0) in
            let k : outputs - i - 1 ≡ outputs - (i + 1) = omega arith in
            record {
              bound = omega arith;
              few = r.few;
              long = r.long;
              little = (omega (arith, r.little, one-small l), omega (arith, r.little, one-small m));
              xs = first-input.others;
              ps = pair.rest;
              cs = first-coin.others;
              ends = (r.ends.0, pair.end, r.ends.2);
              inputs = (rw input-ends.0 at first-input.rest);
              outputs-left = (rw (k, s.3) at pair.reads);
              coins-left = (rw s.2 at first-coin.rest);
              rests = rw (u, v, add-one, pair.tail, ← s.1) (sym w ∙ here);
            }
