-- One input: what comes before name and start, its items one after the other, and what comes after.
use mathlib.Core.Path.{◌≡◌, ap, sym, ◌∙◌}
use Prim.Native.Nat.{ℕ, ◌+◌, ◌^◌, ◌≤◌, ◌<◌}
use native.Mathlib.Omega.{arith}
use mathlib.Core.List.{List, [], ◌∷◌}
use mathlib.Core.Bool.{true, false}
use lib.ListN.{length}
use lib.Dec.{eqb}
use Rattle.std.specs.Prelude.{Result, Ok, Err}
use Rattle.words.specs.Buffers.{pick}
use Rattle.words.specs.Sameness.{same}
use Rattle.refusal.specs.declared.Refusal.{Refusal}
use Rattle.refusal.specs.Paper.{number_of, carried}
use Rattle.covenants.specs.Covenant.{bytes_in}
use Rattle.covenants.specs.Kind.{is_name}
use Rattle.sheets.specs.Sheet.{output_of, items_from}
use Rattle.checks.specs.Checks.{Step, and_then}
use Rattle.checks.specs.Items.{items_pair}
use Rattle.checks.specs.declared.Pair.{Pair}
use Rattle.checks.proofs.Comparing.{left_end, item-malformed, items-fit, items-unequal, items-equal}
use Rattle.links.specs.Workers.{afterwards}
use Rattle.links.specs.Workers.{Turned, stops, turned, Turning}
use Rattle.links.specs.declared.rows.Turn.{Turn}

module _ (tx coins : List ℕ) (i : ℕ) (t : Turn) (k : ℕ) {whole : Turned} (r : Turning tx coins i t k whole) where
  abbrev Ends : Step → Turned
  Ends names = turned (and_then names (afterwards t.rest i (output_of coins t.spent) (output_of tx t.made))) (is_name t.spent.kind) t.next.coin t.next.output

  -- no item is left
  pub finished : {step : Step} → 2 ≤ k → step ≡ afterwards t.rest i (output_of coins t.spent) (output_of tx t.made)
      → turned step (is_name t.spent.kind) t.next.coin t.next.output ≡ whole
  finished h e =
      ap (λ (s : Step). turned s (is_name t.spent.kind) t.next.coin t.next.output) e
      ∙ sym (ap Ends (left_end i (items_from coins t.spent.covenant) (items_from tx t.made.covenant) k h))
      ∙ r.rests

  module _ (big : (length coins < 2 ^ 64) × (length tx < 2 ^ 64)) (h : k < 2) {pair : Result Pair ℕ} (is : pair ≡ items_pair t.spent_items t.made_items k) where
    pub malformed : {field : ℕ} → pair ≡ Err field → stops 15 (i ∷ field ∷ []) ≡ whole
    malformed e = sym (ap Ends (item-malformed coins tx big i t.spent.covenant t.made.covenant k h (r.found h).0 (r.found h).1 is e)) ∙ r.rests

    module _ {p : Pair} (e : pair ≡ Ok p) where
      pub fitting : (p.spent + p.width ≤ length coins) × (p.created + p.width ≤ length tx)
      fitting = items-fit coins tx big i t.spent.covenant t.made.covenant k h (r.found h).0 (r.found h).1 is e

      pub unequal : {n : Refusal} → n ≡ pick (eqb k 0) (Refusal.NameHashMismatch i) (Refusal.StartHeightMismatch i) → same (bytes_in coins (p.spent, p.width)) (bytes_in tx (p.created, p.width)) ≡ false
          → stops (number_of n) (carried n) ≡ whole
      unequal n f = sym (ap Ends (items-unequal coins tx big i t.spent.covenant t.made.covenant k h (r.found h).0 (r.found h).1 is e n f)) ∙ r.rests

      pub equal : same (bytes_in coins (p.spent, p.width)) (bytes_in tx (p.created, p.width)) ≡ true → Turning tx coins i t (k + 1) whole
      equal f =
          record {
            bound = omega arith;
            found = λ j. r.found h;
            rests = sym (ap Ends (items-equal coins tx big i t.spent.covenant t.made.covenant k h (r.found h).0 (r.found h).1 is e f)) ∙ r.rests;
          }
