use Rattle.links.specs.Rules.{free_rule}
use Rattle.links.proofs.rows.free_row.Goals as goal

pub returns-then-not-is_free : goal.returns-then-not-is_free
unfolding free_rule
returns-then-not-is_free c = λ coins tx. rw (c.invalid_transition.ensures, ← c.is_free.ensures, c.if-not-is_free.true)

pub returns : goal.returns
unfolding free_rule
returns c = λ coins tx. rw (← c.is_free.ensures, c.if-not-is_free.false)
