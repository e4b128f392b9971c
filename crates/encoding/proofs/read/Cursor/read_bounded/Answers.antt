use borrow.Author.Tests.{lt-ltb, le-ltb}
use Rattle.encoding.specs.Wire.{inside, most, bounded_at}
use Rattle.encoding.proofs.read.Cursor.read_bounded.Goals as goal

pub returns-then-s-at : goal.returns-then-s-at
unfolding inside bounded_at
returns-then-s-at c = rw (c.beyond.ensures.0, c.beyond.ensures.1, lt-ltb _ _ c.if-s-at.true)

pub returns-then-maximum-length : goal.returns-then-maximum-length
unfolding inside most bounded_at
returns-then-maximum-length c = rw (c.too_long.ensures.0, c.too_long.ensures.1, le-ltb _ _ c.if-s-at.false, lt-ltb _ _ c.if-maximum-length.true)

pub returns : goal.returns
unfolding inside most bounded_at
returns c = simp (le-ltb _ _ c.if-s-at.false, le-ltb _ _ c.if-maximum-length.false) c.read_slice.ensures
