use native.Mathlib.Omega.{arith}
use mathlib.Core.Path.{sym, ◌∙◌}
use Prim.Native.Nat.{◌+◌, ◌-◌}
use Rattle.covenants.proofs.Checks.{held-bad, held_more, held_none}
use Rattle.covenants.proofs.write.Table.held.Goals as goal

pub loop-i-preserved : goal.loop-i-preserved
loop-i-preserved c = sym (held_more _ _ _ _ _ {n = c.args.self.count - (c.loop-i.i + 1)} {n' = c.args.self.count - c.loop-i.i} (omega arith) (omega arith) (sym c.holds.ensures ∙ c.if-not-holds.false)) ∙ c.loop-i.invariant

pub returns-then-not-holds : goal.returns-then-not-holds
returns-then-not-holds c = held-bad _ _ _ _ _ {n = c.args.self.count - (c.loop-i.i + 1)} {n' = c.args.self.count - c.loop-i.i} (omega arith) (sym c.holds.ensures ∙ c.if-not-holds.true) ∙ c.loop-i.invariant

pub returns : goal.returns
returns c = held_none _ _ _ _ _ {n = c.args.self.count - c.loop-i.i} (omega arith) ∙ c.loop-i.invariant
