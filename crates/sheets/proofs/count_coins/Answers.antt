use mathlib.Core.Path.{sym, ap}
use Prim.Native.Nat.{ℕ}
use Rattle.refusal.proofs.Outcomes.{raised}
use Rattle.refusal.proofs.Many.{many-long}
use Rattle.sheets.specs.Sheet.{coin_counts, coins_at}
use Rattle.sheets.proofs.Whole.{sheet-shut, sheet-stopped, sheet-left, sheet-whole}
use Rattle.sheets.proofs.count_coins.Goals as goal

pub returns-in_err-head : goal.returns-in_err-head
unfolding coin_counts coins_at
returns-in_err-head c = rw (raised c.from_residual.ensures) (sheet-shut _ _ _ _ (sym c.in_err-head.ensures))

pub returns-in_err-end : goal.returns-in_err-end
unfolding coin_counts coins_at
returns-in_err-end c =
    rw (raised c.from_residual-in_err-end.ensures)
    (sheet-stopped _ _ _ _ (sym c.in_ok-head.ensures) (sym c.in_err-end.ensures))

pub returns-in_err-finish : goal.returns-in_err-finish
unfolding coin_counts coins_at
returns-in_err-finish c =
    rw (raised c.from_residual-in_err-finish.ensures)
    (sheet-left _ _ _ _ (sym c.in_ok-head.ensures) (sym c.in_ok-end.ensures) (sym c.in_err-finish.ensures))

pub returns : goal.returns
unfolding coin_counts coins_at
returns c =
    sheet-whole _ _ _ _ (sym c.in_ok-head.ensures)
    (λ a p e. ap (λ (n : ℕ). (n, 0)) (many-long _ _ _ e)) (sym c.in_ok-end.ensures) (sym c.in_ok-finish.ensures)
