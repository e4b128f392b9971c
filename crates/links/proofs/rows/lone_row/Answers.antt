use mathlib.Core.Logic.{inl, inr}
use Rattle.links.specs.Rules.{free_rule, unknown_rule}
use Rattle.links.proofs.rows.lone_row.Goals as goal

pub returns-in-Free : goal.returns-in-Free
unfolding free_rule unknown_rule
returns-in-Free c = λ spent e. elim c.in-Free.is [ inl p ↦ rw p | inr p ↦ rw p ]
