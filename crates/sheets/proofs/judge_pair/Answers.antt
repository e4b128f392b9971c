use mathlib.Core.Path.{sym}
use Rattle.refusal.proofs.Outcomes.{raised}
use Rattle.sheets.proofs.Whole.{pair-both, pair-first, pair-second}
use Rattle.sheets.proofs.judge_pair.Goals as goal

pub returns-in_err-transaction : goal.returns-in_err-transaction
returns-in_err-transaction c = rw (raised c.from_residual.ensures) (pair-first _ _ (sym c.in_err-transaction.ensures))

pub returns-in_err-coin_sheet : goal.returns-in_err-coin_sheet
returns-in_err-coin_sheet c =
    rw (raised c.from_residual-in_err-coin_sheet.ensures)
    (pair-second _ _ (sym c.in_ok-transaction.ensures) (sym c.in_err-coin_sheet.ensures))

pub returns : goal.returns
returns c = pair-both _ _ (sym c.in_ok-transaction.ensures) (sym c.in_ok-coin_sheet.ensures)
