use native.Mathlib.Omega.{arith}
use mathlib.Core.Path.{sym, ◌∙◌}
use Rattle.refusal.proofs.Many.{past_first}
use Rattle.covenants.proofs.OneByte.{short-item}
use Rattle.covenants.proofs.Reader.short_items.Goals as goal

pub loop-passed-preserved : goal.loop-passed-preserved
loop-passed-preserved c =
    let h = rw c.in-Some.is at c.short_item.ensures in
    (omega (arith, h.goes, c.loop-passed.invariant.0), omega arith, omega arith, sym (past_first _ (omega arith) (short-item _ _ _ (omega arith) c.loop-passed.invariant.0 h (omega (arith, h.fits)) (omega (arith, h.fits)))) ∙ c.loop-passed.invariant.3)
