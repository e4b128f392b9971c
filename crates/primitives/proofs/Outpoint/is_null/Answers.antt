use mathlib.Core.Path.{◌∙◌}
use borrow.Author.Tests.{ne_eqb}
use Rattle.primitives.specs.Outpoints.{null_outpoint, is_null, same_outpoint}
use Rattle.primitives.proofs.Equal.{equal}
use Rattle.primitives.proofs.Outpoint.is_null.Goals as goal

pub returns-then-self : goal.returns-then-self
unfolding is_null
returns-then-self c = c.eq.ensures ∙ equal c.args.self null_outpoint

pub returns-else-self : goal.returns-else-self
unfolding is_null same_outpoint
returns-else-self c = rw (ne_eqb c.args.self.index 4294967295 c.if-self.false)
