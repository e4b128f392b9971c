use mathlib.Core.Path.{sym, ◌∙◌}
use Rattle.refusal.proofs.Outcomes.{raised}
use Rattle.links.specs.Rules.{committed}
use Rattle.links.proofs.Judging.{above, not_above}
use Rattle.links.proofs.rows.commitment.Goals as goal

pub returns-in_err-opening : goal.returns-in_err-opening
unfolding committed
returns-in_err-opening c = rw (raised c.from_residual.ensures, ← c.opening.ensures, c.in_err-opening.was)

pub returns-then-lt : goal.returns-then-lt
unfolding committed
returns-then-lt c = rw (← c.opening.ensures, c.in_ok-opening.was, above _ _ (sym c.lt.ensures ∙ c.if-lt.true))

pub returns : goal.returns
unfolding committed
returns c = rw (← c.opening.ensures, c.in_ok-opening.was, not_above _ _ (sym c.lt.ensures ∙ c.if-lt.false))
