use mathlib.Core.Path.{◌∙◌}
use Rattle.covenants.proofs.Checks.{answer-is, content-is}
use Rattle.covenants.proofs.items.Directory.encode.Goals as goal

pub returns : goal.returns
returns c =
    let t = c.table.ensures.same in
    let said = rw (t.0, t.1, t.2, t.3, t.4) at c.encode.ensures.result_value in
    let held = rw (t.0, t.1, t.2, t.3, t.4) at c.encode.ensures.dest_after in
    record {
      result_value = said ∙ answer-is c.args.self.source.now c.args.self.starts.now c.args.self.lens.now c.args.self.count c.table.ensures.whole.0 c.table.ensures.whole.1 c.args.kind c.args.dest.now;
      dest_after = held ∙ content-is c.args.self.source.now c.args.self.starts.now c.args.self.lens.now c.args.self.count c.table.ensures.whole.0 c.table.ensures.whole.1 c.args.kind c.args.dest.now;
    }
