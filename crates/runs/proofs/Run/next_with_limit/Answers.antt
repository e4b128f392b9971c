use Rattle.std.proofs.Common.{eq-eqb, ne_eqb}
use Rattle.runs.specs.Run.{step_at}
use Rattle.runs.proofs.Run.next_with_limit.Goals as goal

pub returns-then-self-s : goal.returns-then-self-s
unfolding step_at
returns-then-self-s c = rw (eq-eqb _ _ c.if-self-s.true)

pub returns-in-Ok : goal.returns-in-Ok
unfolding step_at
returns-in-Ok c = rw (ne_eqb _ _ c.if-self-s.false, ← c.read.ensures, c.in-Ok.is)

pub returns-in-Err : goal.returns-in-Err
unfolding step_at
returns-in-Err c = rw (ne_eqb _ _ c.if-self-s.false, ← c.read.ensures, c.in-Err.is)
