use mathlib.Core.Path.{◌≡◌}
use Prim.Native.Nat.{◌-◌, ◌≤◌}
use Rattle.refusal.specs.Outcome.{past, many_at}
use Rattle.covenants.specs.Covenant.{item_at}
use Rattle.covenants.proofs.Reader.short_items.Given as goal

abbrev pub invariant-loop-passed : goal.invariant-loop-passed
invariant-loop-passed l = (l.fn.self.start ≤ l.at) × (l.fn.from.passed ≤ l.passed) × (l.passed ≤ l.count) × (past (many_at (item_at l.fn.self.allowance l.fn.self.start l.s) (l.count - l.passed) l.at) ≡ past (many_at (item_at l.fn.self.allowance l.fn.self.start l.s) (l.count - l.fn.from.passed) l.fn.from.next.position))

abbrev pub decreases-loop-passed : goal.decreases-loop-passed
decreases-loop-passed l = l.count - l.passed
