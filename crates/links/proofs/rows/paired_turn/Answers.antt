use Rattle.refusal.proofs.Outcomes.{raised}
use Rattle.links.specs.Rules.{rule}
use Rattle.links.proofs.rows.paired_turn.Goals as goal

pub returns-in_err-gate : goal.returns-in_err-gate
unfolding rule
returns-in_err-gate c = rw (raised c.from_residual.ensures, ← c.row_of.ensures, ← c.pair_row.ensures, c.in_err-gate.was)

pub returns-in-Some : goal.returns-in-Some
unfolding rule
returns-in-Some c = rw (← c.row_of.ensures, ← c.pair_row.ensures, c.in_ok-gate.was, c.in-Some.is) (c.named_turn.ensures _)

pub returns-in-None : goal.returns-in-None
unfolding rule
returns-in-None c = rw (← c.row_of.ensures, ← c.pair_row.ensures, c.in_ok-gate.was, c.in-None.is) (c.free_turn.ensures _ _ _)
