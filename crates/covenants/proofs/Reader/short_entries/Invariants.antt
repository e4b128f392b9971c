use Prim.Native.Nat.{ℕ, ◌-◌, ◌≤◌}
use Rattle.covenants.specs.Covenant.{item_at}
use Rattle.covenants.specs.Workers.{Filling}
use Rattle.covenants.proofs.Reader.short_entries.Given as goal

abbrev pub invariant-loop-passed : goal.invariant-loop-passed
invariant-loop-passed l = (l.fn.self.start ≤ l.at) × (l.fn.from.passed ≤ l.passed) × (l.passed ≤ l.count) × ((first : ℕ) → Filling (item_at l.fn.self.allowance l.fn.self.start l.s) l.fn.self.start l.count first l.initial.starts l.initial.lens l.fn.from.next.position l.fn.from.passed → Filling (item_at l.fn.self.allowance l.fn.self.start l.s) l.fn.self.start l.count first l.starts l.lens l.at l.passed)

abbrev pub decreases-loop-passed : goal.decreases-loop-passed
decreases-loop-passed l = l.count - l.passed
