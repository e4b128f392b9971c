use borrow.Author.Tests.{lt-ltb, le-ltb}
use Rattle.refusal.proofs.Outcomes.{raised}
use Rattle.encoding.specs.Wire.{most, compact_most}
use Rattle.encoding.proofs.read.Cursor.read_compact_usize.Goals as goal

pub returns-in_err-v : goal.returns-in_err-v
unfolding most compact_most
returns-in_err-v c = rw (raised c.from_residual.ensures, ← c.read_compact_size.ensures, c.in_err-v.was)

pub returns-then-maximum-value : goal.returns-then-maximum-value
unfolding most compact_most
returns-then-maximum-value c = rw (← c.read_compact_size.ensures, c.in_ok-v.was, c.too_long.ensures.0, c.too_long.ensures.1, lt-ltb _ _ c.if-maximum-value.true)

pub returns : goal.returns
unfolding most compact_most
returns c = rw (← c.read_compact_size.ensures, c.in_ok-v.was, le-ltb _ _ c.if-maximum-value.false)
