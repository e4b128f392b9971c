use mathlib.Core.Path.{sym}
use Rattle.refusal.proofs.Outcomes.{raised}
use Rattle.sheets.specs.Sheet.{transaction_counts, transaction_at}
use Rattle.sheets.proofs.Whole.{sheet-shut, sheet-stopped, sheet-left, sheet-whole, ledger-long}
use Rattle.sheets.proofs.count_transaction.Goals as goal

pub returns-in_err-head : goal.returns-in_err-head
unfolding transaction_counts transaction_at
returns-in_err-head c = rw (raised c.from_residual.ensures) (sheet-shut _ _ _ _ (sym c.in_err-head.ensures))

pub returns-in_err-end : goal.returns-in_err-end
unfolding transaction_counts transaction_at
returns-in_err-end c =
    rw (raised c.from_residual-in_err-end.ensures)
    (sheet-stopped _ _ _ _ (sym c.in_ok-head.ensures) (sym c.in_err-end.ensures))

pub returns-in_err-finish : goal.returns-in_err-finish
unfolding transaction_counts transaction_at
returns-in_err-finish c =
    rw (raised c.from_residual-in_err-finish.ensures)
    (sheet-left _ _ _ _ (sym c.in_ok-head.ensures) (sym c.in_ok-end.ensures) (sym c.in_err-finish.ensures))

pub returns : goal.returns
unfolding transaction_counts transaction_at
returns c =
    sheet-whole _ _ _ _ (sym c.in_ok-head.ensures)
    (λ a p e. ledger-long _ _ _ e) (sym c.in_ok-end.ensures) (sym c.in_ok-finish.ensures)
