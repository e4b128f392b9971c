use Rattle.refusal.proofs.Outcomes.{raised}
use Rattle.encoding.specs.Wire.{varbytes_at}
use Rattle.encoding.proofs.read.Cursor.read_varbytes.Goals as goal

pub returns-in_err-n : goal.returns-in_err-n
unfolding varbytes_at
returns-in_err-n c = rw (raised c.from_residual.ensures, ← c.read_compact_usize.ensures, c.in_err-n.was)

pub returns : goal.returns
unfolding varbytes_at
returns c = rw (← c.read_compact_usize.ensures, c.in_ok-n.was) c.read_bounded.ensures
