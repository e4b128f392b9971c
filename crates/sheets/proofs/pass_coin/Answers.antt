use mathlib.Core.Path.{sym, ◌∙◌}
use Rattle.refusal.proofs.Outcomes.{raised}
use Rattle.sheets.proofs.Reading.{coin-next, coin-cut}
use Rattle.sheets.proofs.pass_coin.Goals as goal

pub returns-in_err-pass_to_output : goal.returns-in_err-pass_to_output
returns-in_err-pass_to_output c = rw (raised c.from_residual.ensures) (sym (coin-cut _ _ _ (sym c.in_err-pass_to_output.ensures)))

pub returns : goal.returns
returns c = c.pass_output.ensures ∙ sym (coin-next _ _ _ (sym c.in_ok-pass_to_output.ensures))
