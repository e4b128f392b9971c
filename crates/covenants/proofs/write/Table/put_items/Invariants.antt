use Rattle.covenants.specs.Workers.{There}
use Rattle.covenants.proofs.Laying.{Putting}
use Rattle.covenants.proofs.write.Table.put_items.Given as goal

abbrev pub invariant-loop-i : goal.invariant-loop-i
invariant-loop-i l = There l.self.starts.now l.self.first l.self.count × There l.self.lens.now l.self.first l.self.count × Putting l.self.source.now l.self.starts.now l.self.lens.now l.self.first l.self.count l.place l.initial.dest l.dest l.at l.i
