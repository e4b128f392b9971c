use mathlib.Core.Path.{refl}
use Rattle.refusal.proofs.Outcomes.{raised}
use Rattle.sheets.specs.Sheet.{output_of}
use Rattle.links.specs.Rules.{rule}
use Rattle.links.proofs.rows.lone_turn.Goals as goal

pub returns-in_err-lone_row : goal.returns-in_err-lone_row
unfolding rule
returns-in_err-lone_row c = λ tx coins. rw (raised c.from_residual.ensures, ← c.row_of.ensures, ← c.lone_row.ensures (output_of coins c.args.spent) refl, c.in_err-lone_row.was)

pub returns : goal.returns
unfolding rule
returns c = λ tx coins. rw (← c.row_of.ensures, ← c.lone_row.ensures (output_of coins c.args.spent) refl, c.in_ok-lone_row.was) (c.free_turn.ensures _ _ _)
