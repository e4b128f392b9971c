use native.Mathlib.Omega.{arith}
use Rattle.encoding.specs.Paper.{read_as, read_paper}
use Rattle.refusal.proofs.Outcomes.{told, raised}
use Rattle.encoding.proofs.Fixed.{fixed-moves, most-moves}
use Rattle.covenants.specs.Covenant.{head_at}
use Rattle.covenants.proofs.Reader.head.Goals as goal

pub returns-in_err-kind : goal.returns-in_err-kind
unfolding head_at
returns-in_err-kind c = rw (raised c.from_residual.ensures, ← c.read_le.ensures, c.in_err-kind.was)

pub returns-in_err-count : goal.returns-in_err-count
unfolding head_at
returns-in_err-count c = rw (raised c.from_residual-in_err-count.ensures, ← c.read_le.ensures, c.in_ok-kind.was, ← c.read_compact_usize.ensures, c.in_err-count.was)

pub left-requires : goal.left-requires
left-requires c = omega (arith, fixed-moves _ _ _ (omega arith) (told (read_as (λ k. k)) c.read_le.ensures c.in_ok-kind.was), most-moves _ _ _ (omega arith) (told read_paper c.read_compact_usize.ensures c.in_ok-count.was))

pub returns-in_err-left : goal.returns-in_err-left
unfolding head_at
returns-in_err-left c = rw (raised c.from_residual-in_err-left.ensures, ← c.read_le.ensures, c.in_ok-kind.was, ← c.read_compact_usize.ensures, c.in_ok-count.was, ← c.left.ensures, c.in_err-left.was)

pub returns : goal.returns
unfolding head_at
returns c = rw (← c.read_le.ensures, c.in_ok-kind.was, ← c.read_compact_usize.ensures, c.in_ok-count.was, ← c.left.ensures, c.in_ok-left.was)
