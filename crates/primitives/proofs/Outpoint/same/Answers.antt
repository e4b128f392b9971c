use mathlib.Core.Path.{◌∙◌}
use Rattle.primitives.proofs.Equal.{equal}
use Rattle.primitives.proofs.Outpoint.same.Goals as goal

pub returns : goal.returns
returns c = c.eq.ensures ∙ equal _ _
