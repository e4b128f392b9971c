use mathlib.Core.Path.{◌∙◌}
use Rattle.covenants.proofs.Checks.{size_is}
use Rattle.covenants.proofs.items.Directory.encoded_size.Goals as goal

pub returns : goal.returns
returns c =
    let t = c.table.ensures.same in
    let same = rw (t.0, t.1, t.2, t.3, t.4) at c.size.ensures in
    same ∙ size_is c.args.self.source.now c.args.self.starts.now c.args.self.lens.now c.args.self.count c.table.ensures.whole.0 c.table.ensures.whole.1
