use borrow.Author.Tests.{lt-ltb, le-ltb}
use Rattle.encoding.specs.Wire.{inside}
use Rattle.covenants.specs.Covenant.{opening}
use Rattle.covenants.proofs.Reader.open.Goals as goal

pub returns-then-s-at : goal.returns-then-s-at
unfolding inside opening
returns-then-s-at c = rw (c.cut.ensures.0, c.cut.ensures.1, lt-ltb _ _ c.if-s-at.true)

pub returns-then-self-lt2 : goal.returns-then-self-lt2
unfolding inside opening
returns-then-self-lt2 c = rw (le-ltb _ _ c.if-s-at.false, lt-ltb _ _ c.if-self-lt2.true, c.too_large.ensures.0, c.too_large.ensures.1)

pub returns : goal.returns
unfolding inside opening
returns c = rw (le-ltb _ _ c.if-s-at.false, le-ltb _ _ c.if-self-lt2.false) c.head.ensures
