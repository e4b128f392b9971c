use Prim.Native.Nat.{◌-◌}
use Rattle.covenants.specs.Covenant.{item_at}
use Rattle.covenants.specs.Workers.{Filling}
use Rattle.covenants.proofs.Reader.fill.Given as goal

abbrev pub invariant-loop-self : goal.invariant-loop-self
invariant-loop-self l = Filling (item_at l.self.allowance l.self.start l.s) l.self.start l.count l.fn.from.position l.starts l.lens l.reached.next.position l.reached.passed

abbrev pub decreases-loop-self : goal.decreases-loop-self
decreases-loop-self l = l.count - l.reached.passed
