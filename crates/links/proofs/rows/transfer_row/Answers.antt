use borrow.Author.Tests.{eq-eqb, ne_eqb}
use mathlib.Core.Path.{sym, ◌∙◌}
use Rattle.std.proofs.lemmas.Bool.{not-false, not-true}
use Rattle.links.specs.Rules.{transfer_rule}
use Rattle.links.proofs.rows.transfer_row.Goals as goal

pub returns-then-ne : goal.returns-then-ne
unfolding transfer_rule
returns-then-ne c = λ coins tx. rw (not-true _ (sym c.ne.ensures ∙ c.if-ne.true))

pub returns-then-keeps : goal.returns-then-keeps
unfolding transfer_rule
returns-then-keeps c = λ coins tx. rw (not-false _ (sym c.ne.ensures ∙ c.if-ne.false), ← c.keeps.ensures, c.if-keeps.true)

pub returns-then-s-eq-FINALIZE : goal.returns-then-s-eq-FINALIZE
unfolding transfer_rule
returns-then-s-eq-FINALIZE c = λ coins tx. rw (not-false _ (sym c.ne.ensures ∙ c.if-ne.false), ← c.keeps.ensures, c.if-keeps.false, eq-eqb _ _ c.if-s-eq-FINALIZE.true)

pub returns-else-s-eq-FINALIZE : goal.returns-else-s-eq-FINALIZE
unfolding transfer_rule
returns-else-s-eq-FINALIZE c = λ coins tx. rw (c.invalid_transition.ensures, not-false _ (sym c.ne.ensures ∙ c.if-ne.false), ← c.keeps.ensures, c.if-keeps.false, ne_eqb _ _ c.if-s-eq-FINALIZE.false)
