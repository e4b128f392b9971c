use native.Mathlib.Omega.{arith}
use borrow.Author.Tests.{lt-ltb, le-ltb}
use Rattle.refusal.proofs.Outcomes.{told, raised}
use Rattle.encoding.proofs.Compact.{compact-size-most}
use Rattle.covenants.specs.Written.{table_size}
use Rattle.covenants.specs.Workers.{held_paper}
use Rattle.covenants.proofs.Checks.{there-held}
use Rattle.covenants.proofs.write.Table.size.Goals as goal

pub returns-then-self-gt-MAX_ITEMS : goal.returns-then-self-gt-MAX_ITEMS
unfolding table_size
returns-then-self-gt-MAX_ITEMS c = rw (lt-ltb _ _ c.if-self-gt-MAX_ITEMS.true)

pub returns-in_err-held : goal.returns-in_err-held
unfolding table_size
returns-in_err-held c = rw (raised c.from_residual.ensures, le-ltb _ _ c.if-self-gt-MAX_ITEMS.false, ← c.held.ensures, c.in_err-held.was)

pub overflow_add-compact_size_len : goal.overflow_add-compact_size_len
overflow_add-compact_size_len c = omega (arith, c.compact_size_len.ensures, compact-size-most c.args.self.count)

pub size_after-requires : goal.size_after-requires
size_after-requires c = (omega (arith, c.compact_size_len.ensures, compact-size-most c.args.self.count), (there-held _ _ _ _ _ (told held_paper c.held.ensures c.in_ok-held.was)).1)

pub returns : goal.returns
unfolding table_size
returns c = rw (le-ltb _ _ c.if-self-gt-MAX_ITEMS.false, ← c.held.ensures, c.in_ok-held.was, ← c.compact_size_len.ensures) c.size_after.ensures
