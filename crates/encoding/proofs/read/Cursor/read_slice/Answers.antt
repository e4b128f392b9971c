use native.Mathlib.Omega.{arith}
use mathlib.Core.Path.{sym}
use Rattle.encoding.proofs.Slice as slice
use Rattle.encoding.proofs.read.Cursor.read_slice.Goals as goal

pub returns-then-s-at : goal.returns-then-s-at
returns-then-s-at c = rw (c.beyond.ensures.0, c.beyond.ensures.1) (sym (slice.beyond _ _ _ c.if-s-at.true))

pub returns-then-length-left : goal.returns-then-length-left
returns-then-length-left c = sym (slice.within _ _ _ (omega arith) (omega arith))

pub returns-then-length-at : goal.returns-then-length-at
returns-then-length-at c = rw (c.cut.ensures.0, c.cut.ensures.1) (sym (slice.cut _ _ _ (omega arith) (omega arith) (omega arith) (omega arith)))

pub returns : goal.returns
returns c = rw (c.too_long.ensures.0, c.too_long.ensures.1) (sym (slice.past _ _ _ (omega arith) (omega arith)))
