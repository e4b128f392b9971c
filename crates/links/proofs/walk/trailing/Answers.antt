use mathlib.Core.Path.{ap, sym, ◌∙◌}
use Rattle.encoding.specs.Paper.{read_paper}
use Rattle.refusal.proofs.Outcomes.{told}
use Rattle.checks.proofs.Judging.{kept, turned}
use Rattle.links.specs.Verify as verify
use Rattle.links.proofs.Unpaired.{ended, dead, stopped, more}
use Rattle.links.proofs.walk.trailing.Goals as goal

pub returns-in_err-made : goal.returns-in_err-made
returns-in_err-made c = dead _ _ _ _ c.loop-k.invariant c.loop-k-test.true (told read_paper c.place_at.ensures (turned _ c.place_at.result c.map_err.ensures.cases c.in_err-made.was).1)

pub returns-then-is_linked : goal.returns-then-is_linked
returns-then-is_linked c =
    let e = told read_paper c.place_at.ensures (kept _ c.place_at.result c.map_err.ensures.cases c.in_ok-made.was) in
    rw c.from.ensures (ap verify.answer_of (stopped _ _ _ _ c.loop-k.invariant c.loop-k-test.true e (sym c.is_linked.ensures ∙ c.if-is_linked.true)))

pub loop-k-preserved : goal.loop-k-preserved
loop-k-preserved c =
    let e = told read_paper c.place_at.ensures (kept _ c.place_at.result c.map_err.ensures.cases c.in_ok-made.was) in
    more _ _ _ _ c.loop-k.invariant c.loop-k-test.true e (sym c.is_linked.ensures ∙ c.if-is_linked.false)

pub returns : goal.returns
returns c = ap verify.answer_of (ended _ _ _ _ c.loop-k.invariant c.loop-k-test.false)
