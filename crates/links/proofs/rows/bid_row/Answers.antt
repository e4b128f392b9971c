use borrow.Author.Tests.{eq-eqb, ne_eqb}
use Rattle.links.specs.Rules.{bid_rule}
use Rattle.links.proofs.rows.bid_row.Goals as goal

pub returns-then-s-ne-REVEAL : goal.returns-then-s-ne-REVEAL
unfolding bid_rule
returns-then-s-ne-REVEAL c = λ coins tx. rw (c.invalid_transition.ensures, ne_eqb _ _ c.if-s-ne-REVEAL.true)

pub returns : goal.returns
unfolding bid_rule
returns c = λ coins tx. rw (eq-eqb _ _ c.if-s-ne-REVEAL.false)
