use native.Mathlib.Omega.{arith}
use borrow.Author.Tests.{lt-ltb, le-ltb}
use Rattle.encoding.specs.Paper.{read_paper}
use Rattle.refusal.proofs.Outcomes.{told, raised}
use Rattle.encoding.proofs.Fixed.{most-moves}
use Rattle.covenants.specs.Covenant.{item_at}
use Rattle.covenants.proofs.Reader.item.Goals as goal

pub returns-in_err-size : goal.returns-in_err-size
unfolding item_at
returns-in_err-size c = rw (raised c.from_residual.ensures, ← c.read_compact_usize.ensures, c.in_err-size.was)

pub left-requires : goal.left-requires
left-requires c = omega (arith, most-moves _ _ _ (omega arith) (told read_paper c.read_compact_usize.ensures c.in_ok-size.was))

pub returns-in_err-left : goal.returns-in_err-left
unfolding item_at
returns-in_err-left c = rw (raised c.from_residual-in_err-left.ensures, ← c.read_compact_usize.ensures, c.in_ok-size.was, ← c.left.ensures, c.in_err-left.was)

pub overflow_sub-used : goal.overflow_sub-used
overflow_sub-used c = omega (arith, most-moves _ _ _ (omega arith) (told read_paper c.read_compact_usize.ensures c.in_ok-size.was))

pub overflow_add-used : goal.overflow_add-used
overflow_add-used c = omega (arith, most-moves _ _ _ (omega arith) (told read_paper c.read_compact_usize.ensures c.in_ok-size.was))

pub returns-then-left-size : goal.returns-then-left-size
unfolding item_at
returns-then-left-size c = rw (← c.read_compact_usize.ensures, c.in_ok-size.was, ← c.left.ensures, c.in_ok-left.was, lt-ltb _ _ c.if-left-size.true, c.too_large.ensures.0, c.too_large.ensures.1)

pub returns : goal.returns
unfolding item_at
returns c = rw (← c.read_compact_usize.ensures, c.in_ok-size.was, ← c.left.ensures, c.in_ok-left.was, le-ltb _ _ c.if-left-size.false) c.read_slice.ensures
