use mathlib.Core.Path.{refl, ap, ◌∙◌}
use lib.ListN.{length, length-replicate}
use Rattle.words.specs.Buffers.{laid}
use Rattle.words.proofs.Over.{laid-two}
use Rattle.replay.proofs.answers.join.Goals as goal

pub returns : goal.returns
returns g c =
    let a = c.args in
    c.put_bytes-2.ensures.1
    ∙ ap (laid (length a.first.now) a.second.now) c.put_bytes.ensures.1
    ∙ laid-two a.first.now a.second.now _ refl (simp length-replicate c.requires)
