use mathlib.Core.Path.{ap, sym, ◌∙◌}
use Rattle.links.specs.Verify.{answer_of}
use Rattle.links.proofs.Opening as opening
use Rattle.links.proofs.judged_links.Goals as goal

pub returns-then-is_coinbase : goal.returns-then-is_coinbase
returns-then-is_coinbase c = rw c.from.ensures (ap answer_of (opening.is-coinbase _ _ _ _ _ c.requires (sym c.is_coinbase.ensures ∙ c.if-is_coinbase.true)))

pub returns-then-counts : goal.returns-then-counts
returns-then-counts c = rw c.from-then-counts.ensures (ap answer_of (opening.counts-differ _ _ _ _ _ c.requires (sym c.is_coinbase.ensures ∙ c.if-is_coinbase.false) c.if-counts.true))

pub returns : goal.returns
returns c = c.walk.ensures ∙ ap answer_of (opening.counts-agree _ _ _ _ _ c.requires (sym c.is_coinbase.ensures ∙ c.if-is_coinbase.false) c.if-counts.false)
