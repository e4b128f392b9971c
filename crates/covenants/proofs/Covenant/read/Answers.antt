use native.Mathlib.Omega.{arith}
use mathlib.Core.Path.{ap, sym}
use Rattle.refusal.proofs.Outcomes.{told, raised}
use Rattle.encoding.specs.Paper.{moved_paper}
use Rattle.covenants.specs.Covenant.{skimmed}
use Rattle.covenants.specs.Paper.{head_paper}
use Rattle.covenants.proofs.Moves.{opened-head, skim-refused, skim-stopped, skim-ended, skim-later}
use Rattle.covenants.proofs.Covenant.read.Goals as goal

pub returns-in_err-head : goal.returns-in_err-head
returns-in_err-head c = rw (raised c.from_residual.ensures) (sym (ap skimmed (skim-refused _ _ _ c.new-reader.ensures (told head_paper c.open.ensures c.in_err-head.was))))

pub pass_items-requires : goal.pass_items-requires
pass_items-requires c = let h = opened-head _ _ _ (told head_paper c.open.ensures c.in_ok-head.was) (omega arith) in omega (arith, h.later)

pub returns-in_err-end : goal.returns-in_err-end
returns-in_err-end c = rw (raised c.from_residual-in_err-end.ensures) (skim-stopped _ _ _ c.new-reader.ensures (told head_paper c.open.ensures c.in_ok-head.was) (told moved_paper c.pass_items.ensures c.in_err-end.was))

pub accepted-requires : goal.accepted-requires
accepted-requires c = skim-later _ _ _ c.new-reader.ensures (told head_paper c.open.ensures c.in_ok-head.was) (omega arith) (told moved_paper c.pass_items.ensures c.in_ok-end.was)

pub returns : goal.returns
returns c = rw (c.accepted.ensures.0, c.accepted.ensures.1, c.accepted.ensures.2) (skim-ended _ _ _ c.new-reader.ensures (told head_paper c.open.ensures c.in_ok-head.was) (told moved_paper c.pass_items.ensures c.in_ok-end.was))
