use native.Mathlib.Omega.{arith}
use Rattle.refusal.proofs.Outcomes.{told, raised}
use Rattle.encoding.specs.Wire.{bytes_at, fixed_at}
use Rattle.encoding.specs.Paper.{span_paper}
use Rattle.encoding.proofs.Slice as slice
use Rattle.encoding.proofs.read.Cursor.fixed.Goals as goal

pub returns-in_err-part : goal.returns-in_err-part
unfolding bytes_at fixed_at
returns-in_err-part c = rw (raised c.from_residual.ensures, ← c.read_slice.ensures, c.in_err-part.was)

pub le_at-requires : goal.le_at-requires
le_at-requires c =
    let p = slice.read _ _ _ (omega arith) (told span_paper c.read_slice.ensures c.in_ok-part.was) in
    (omega arith, omega (arith, p.start, p.fits))

pub returns : goal.returns
unfolding bytes_at fixed_at
returns c = rw (← c.read_slice.ensures, c.in_ok-part.was, c.le_at.ensures)
