use mathlib.Core.Path.{sym, ◌∙◌}
use Rattle.std.proofs.lemmas.Bool.{not-false, not-true}
use Rattle.links.specs.Rules.{owned_rule}
use Rattle.checks.proofs.Comparing.{names-pass}
use Rattle.links.proofs.rows.owned_row.Goals as goal

pub returns-then-ne : goal.returns-then-ne
unfolding owned_rule
returns-then-ne c = rw (not-true _ (sym c.ne.ensures ∙ c.if-ne.true))

pub returns-then-not-same_address : goal.returns-then-not-same_address
unfolding owned_rule
returns-then-not-same_address c = rw (not-false _ (sym c.ne.ensures ∙ c.if-ne.false), ← c.same_address.ensures, c.if-not-same_address.true)

pub returns-then-not-stays : goal.returns-then-not-stays
unfolding owned_rule
returns-then-not-stays c = rw (c.invalid_transition.ensures, not-false _ (sym c.ne.ensures ∙ c.if-ne.false), ← c.same_address.ensures, c.if-not-same_address.false, ← c.stays.ensures, c.if-not-stays.true)

pub returns : goal.returns
unfolding owned_rule
returns c = rw (not-false _ (sym c.ne.ensures ∙ c.if-ne.false), ← c.same_address.ensures, c.if-not-same_address.false, ← c.stays.ensures, c.if-not-stays.false) (names-pass _ _ _)
