use native.Mathlib.Omega.{arith}
use borrow.Author.Tests.{eq-eqb, ne_eqb}
use Rattle.links.specs.Rules.{reveal_rule}
use Rattle.links.proofs.rows.reveal_row.Goals as goal

pub returns-in-6 : goal.returns-in-6
unfolding reveal_rule
returns-in-6 c = λ coins tx. rw c.in-6.is

pub returns-in-5 : goal.returns-in-5
unfolding reveal_rule
returns-in-5 c = λ coins tx. rw (c.in-5.is, eq-eqb _ _ c.if-s-eq-CLAIM.true)

pub returns-in-5-2 : goal.returns-in-5-2
unfolding reveal_rule
returns-in-5-2 c = λ coins tx. rw (c.in-5.is, ne_eqb _ _ c.if-s-eq-CLAIM.false)

pub returns-in_default : goal.returns-in_default
unfolding reveal_rule
returns-in_default c = λ coins tx. rw (c.invalid_transition.ensures, ne_eqb c.args.s.made.kind 6 (omega arith), ne_eqb c.args.s.made.kind 5 (omega arith))
