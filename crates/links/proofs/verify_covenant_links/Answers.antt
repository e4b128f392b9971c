use mathlib.Core.Path.{◌∙◌}
use Rattle.refusal.proofs.Outcomes.{told, raised}
use Rattle.sheets.specs.Paper.{pair_paper}
use Rattle.links.proofs.Opening as opening
use Rattle.links.proofs.verify_covenant_links.Goals as goal

pub returns-in_err-counts : goal.returns-in_err-counts
returns-in_err-counts c = rw (raised c.from_residual.ensures) (opening.pair-not _ _ (told pair_paper c.judge_pair.ensures c.in_err-counts.was))

pub judged_links-requires : goal.judged_links-requires
judged_links-requires c = opening.held _ _ (told pair_paper c.judge_pair.ensures c.in_ok-counts.was)

pub returns : goal.returns
returns c = c.judged_links.ensures ∙ opening.verify-is _ _ (told pair_paper c.judge_pair.ensures c.in_ok-counts.was)
