use Rattle.refusal.proofs.Outcomes.{raised}
use Rattle.primitives.specs.Outpoints.{outpoint_at}
use Rattle.primitives.proofs.Outpoint.decode.Goals as goal

pub returns-in_err-hash : goal.returns-in_err-hash
unfolding outpoint_at
returns-in_err-hash c = rw (raised c.from_residual.ensures, ← c.read_array.ensures, c.in_err-hash.was)

pub returns-in_err-index : goal.returns-in_err-index
unfolding outpoint_at
returns-in_err-index c = rw (raised c.from_residual-in_err-index.ensures, ← c.read_array.ensures, c.in_ok-hash.was, ← c.read_le.ensures, c.in_err-index.was)

pub returns : goal.returns
unfolding outpoint_at
returns c = rw (← c.read_array.ensures, c.in_ok-hash.was, ← c.read_le.ensures, c.in_ok-index.was)
