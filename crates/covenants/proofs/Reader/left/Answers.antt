use borrow.Author.Tests.{lt-ltb, le-ltb}
use Rattle.covenants.specs.Covenant.{allowed}
use Rattle.covenants.proofs.Reader.left.Goals as goal

pub returns-then-self-used : goal.returns-then-self-used
unfolding allowed
returns-then-self-used c = rw (lt-ltb _ _ c.if-self-used.true, c.too_large.ensures.0, c.too_large.ensures.1)

pub returns : goal.returns
unfolding allowed
returns c = rw (le-ltb _ _ c.if-self-used.false)
