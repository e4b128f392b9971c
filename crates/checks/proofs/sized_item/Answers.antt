use native.Mathlib.Omega.{arith}
use Rattle.refusal.proofs.Outcomes.{told}
use Rattle.covenants.specs.Paper.{spot_paper}
use Rattle.sheets.proofs.Items.{item-fits, item-other, item-none}
use Rattle.checks.proofs.sized_item.Goals as goal

pub returns-in_err-item : goal.returns-in_err-item
returns-in_err-item c = rw c.from_residual.ensures (item-none _ _ _ c.requires (told spot_paper c.find.ensures c.in_err-item.was))

pub returns-then-item-width : goal.returns-then-item-width
returns-then-item-width c = item-fits _ _ _ (omega arith) c.if-item-width.true (told spot_paper c.find.ensures c.in_ok-item.was)

pub returns-else-item-width : goal.returns-else-item-width
returns-else-item-width c = item-other _ _ _ (omega arith) c.if-item-width.false (told spot_paper c.find.ensures c.in_ok-item.was)
