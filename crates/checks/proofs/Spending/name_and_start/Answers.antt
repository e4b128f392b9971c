use native.Mathlib.Omega.{arith}
use mathlib.Core.Path.{◌≡◌, sym, ◌∙◌}
use Rattle.refusal.specs.declared.Refusal.{Refusal}
use Rattle.refusal.proofs.Outcomes.{raised}
use Rattle.checks.proofs.Comparing.{item-malformed, items-unequal, items-equal}
use Rattle.checks.proofs.Judging.{kept, turned}
use Rattle.checks.proofs.Spending.name_and_start.Goals as goal

pub returns-in_err-pair : goal.returns-in_err-pair
returns-in_err-pair c =
    let m = turned _ c.pair_of.result c.map_err.ensures.cases c.in_err-pair.was in
    let q : c.in_err-pair.field-0.0 ≡ Refusal.MalformedCovenant c.args.self.input m.0 = grind arith in
    rw (raised c.from_residual.ensures, q) (sym (item-malformed c.args.self.coins.now c.args.self.tx.now (omega arith, omega arith) c.args.self.input c.args.self.spent.covenant c.args.self.made.covenant c.loop-k.k (omega arith) c.items_at-spent.ensures c.items_at-made.ensures c.pair_of.ensures m.1) ∙ c.loop-k.invariant _ _ c.items_at-spent.ensures c.items_at-made.ensures)

pub returns-then-not-agrees : goal.returns-then-not-agrees
returns-then-not-agrees c =
    let e = kept _ c.pair_of.result c.map_err.ensures.cases c.in_ok-pair.was in
    sym (items-unequal c.args.self.coins.now c.args.self.tx.now (omega arith, omega arith) c.args.self.input c.args.self.spent.covenant c.args.self.made.covenant c.loop-k.k (omega arith) c.items_at-spent.ensures c.items_at-made.ensures c.pair_of.ensures e c.unequal.ensures (sym c.agrees.ensures ∙ c.if-not-agrees.true)) ∙ c.loop-k.invariant _ _ c.items_at-spent.ensures c.items_at-made.ensures

pub loop-k-preserved : goal.loop-k-preserved
loop-k-preserved c = λ x y u v.
    let e = kept _ c.pair_of.result c.map_err.ensures.cases c.in_ok-pair.was in
    sym (items-equal c.args.self.coins.now c.args.self.tx.now (omega arith, omega arith) c.args.self.input x y c.loop-k.k (omega arith) u v c.pair_of.ensures e (sym c.agrees.ensures ∙ c.if-not-agrees.false)) ∙ c.loop-k.invariant x y u v
