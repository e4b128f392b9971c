use native.Mathlib.Omega.{arith}
use mathlib.Core.Path.{sym}
use Rattle.encoding.specs.Paper.{span_paper}
use Rattle.refusal.proofs.Outcomes.{told, raised}
use Rattle.refusal.proofs.Many.{more, stopped, ended}
use Rattle.covenants.proofs.Moves.{item-read}
use Rattle.covenants.proofs.OneByte.{onward}
use Rattle.covenants.proofs.Reader.pass_items.Goals as goal

pub returns-then-short-count : goal.returns-then-short-count
returns-then-short-count c = sym (ended _ (onward _ c.loop-self.invariant.1 c.short_items-short.ensures.start_le_at.2 c.short_items-short.ensures.at_value) (omega arith))

pub loop-self-preserved : goal.loop-self-preserved
loop-self-preserved c =
    let e = told span_paper c.item.ensures c.in_ok-next.was in
    let m = item-read _ _ _ (omega arith) _ e in
    (omega (arith, c.short_items-short.ensures.start_le_at, m.later, m.ends), more _ (onward _ c.loop-self.invariant.1 c.short_items-short.ensures.start_le_at.2 c.short_items-short.ensures.at_value) (omega arith) e)

pub returns-in_err-next : goal.returns-in_err-next
returns-in_err-next c = rw (raised c.from_residual.ensures) (sym (stopped _ (onward _ c.loop-self.invariant.1 c.short_items-short.ensures.start_le_at.2 c.short_items-short.ensures.at_value) (omega arith) (told span_paper c.item.ensures c.in_err-next.was)))
