use borrow.Author.Tests.{lt-ltb, le-ltb}
use Rattle.encoding.specs.Wire.{canonical}
use Rattle.encoding.proofs.read.shortest.Goals as goal

pub returns-then-v-least : goal.returns-then-v-least
unfolding canonical
returns-then-v-least c = rw (c.in_ok-v.was, c.longer_form.ensures.0, c.longer_form.ensures.1, lt-ltb _ _ c.if-v-least.true)

pub returns : goal.returns
unfolding canonical
returns c = simp (c.in_ok-v.was, le-ltb _ _ c.if-v-least.false)
