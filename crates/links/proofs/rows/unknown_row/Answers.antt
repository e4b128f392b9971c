use Rattle.links.specs.Rules.{unknown_rule}
use Rattle.links.proofs.rows.unknown_row.Goals as goal

pub returns-then-is_name : goal.returns-then-is_name
unfolding unknown_rule
returns-then-is_name c = λ coins tx. rw (← c.is_name.ensures, c.if-is_name.true)

pub returns : goal.returns
unfolding unknown_rule
returns c = λ coins tx. rw (← c.is_name.ensures, c.if-is_name.false)
