use Prim.Native.Nat.{◌-◌, ◌≤◌}
use Rattle.refusal.proofs.Many.{Passing}
use Rattle.covenants.specs.Covenant.{item_at}
use Rattle.covenants.proofs.Reader.pass_items.Given as goal

abbrev pub invariant-loop-self : goal.invariant-loop-self
invariant-loop-self l = (l.self.start ≤ l.reached.next.position) × Passing (item_at l.self.allowance l.self.start l.s) l.count l.fn.from.position l.reached.next.position l.reached.passed

abbrev pub decreases-loop-self : goal.decreases-loop-self
decreases-loop-self l = l.count - l.reached.passed
