use mathlib.Core.Path.{◌≡◌}
use Prim.Native.Nat.{◌+◌, ◌-◌, ◌≤◌}
use Rattle.covenants.specs.Written.{parts, size_from}
use Rattle.covenants.specs.Workers.{There}
use Rattle.covenants.proofs.write.Table.size_after.Given as goal

abbrev pub invariant-loop-i : goal.invariant-loop-i
invariant-loop-i l = (l.used ≤ 1000009) × There l.self.lens.now l.self.first l.self.count × (size_from l.used (parts l.self.starts.now l.self.lens.now (l.self.first + l.i) (l.self.count - l.i)) ≡ size_from l.before (parts l.self.starts.now l.self.lens.now l.self.first l.self.count))
