use mathlib.Core.Path.{◌∙◌}
use borrow.Author.Tests.{eq-eqb}
use Rattle.links.proofs.Opening as opening
use Rattle.links.proofs.is_coinbase.Goals as goal

pub returns-then-n-ne0 : goal.returns-then-n-ne0
returns-then-n-ne0 c = c.is_null.ensures ∙ opening.null-first _ _ c.requires.2 c.if-n-ne0.true c.outpoint_at.ensures

pub returns-else-n-ne0 : goal.returns-else-n-ne0
returns-else-n-ne0 c = rw (eq-eqb _ _ c.if-n-ne0.false) (opening.no-inputs _ _ c.requires.2 c.if-n-ne0.false)
