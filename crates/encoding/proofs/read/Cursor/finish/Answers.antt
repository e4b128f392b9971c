use borrow.Author.Tests.{lt-ltb, le-ltb, eq-eqb, ne_eqb}
use native.Mathlib.Omega.{arith}
use lib.ListN.{length}
use Rattle.encoding.specs.Wire.{inside, remaining_at, finish_at}
use Rattle.encoding.proofs.read.Cursor.finish.Goals as goal

pub returns-then-s-at : goal.returns-then-s-at
unfolding inside finish_at
returns-then-s-at c = rw (c.beyond.ensures.0, c.beyond.ensures.1, lt-ltb _ _ c.if-s-at.true)

pub returns-then-at-s : goal.returns-then-at-s
unfolding inside finish_at remaining_at
returns-then-at-s c = rw (c.trailing.ensures.0, c.trailing.ensures.1, le-ltb _ _ c.if-s-at.false, ne_eqb c.args.self.position (length c.args.s.now) (omega arith))

pub returns : goal.returns
unfolding inside finish_at
returns c = simp (le-ltb _ _ c.if-s-at.false, eq-eqb c.args.self.position (length c.args.s.now) (omega arith))
