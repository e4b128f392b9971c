use mathlib.Core.Path.{◌≡◌}
use Prim.Native.Nat.{◌-◌}
use lib.ListN.{length}
use Rattle.covenants.specs.Written.{table_held}
use Rattle.covenants.proofs.write.Table.held.Given as goal

abbrev pub invariant-loop-i : goal.invariant-loop-i
invariant-loop-i l = table_held (length l.self.source.now) l.self.starts.now l.self.lens.now l.self.first l.i (l.self.count - l.i) ≡ table_held (length l.self.source.now) l.self.starts.now l.self.lens.now l.self.first 0 l.self.count
