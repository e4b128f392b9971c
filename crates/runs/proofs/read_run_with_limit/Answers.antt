use Rattle.std.proofs.Common.{◌∙◌, Ok, arith}
use Rattle.refusal.proofs.Outcomes.{told, raised}
use Rattle.runs.specs.Paper.{run_step_paper}
use Rattle.runs.proofs.Running.{begin, finish, moves, more}
use Rattle.runs.proofs.Covenants.{skim-moves, skim-said}
use Rattle.runs.proofs.read_run_with_limit.Goals as goal

pub loop-after-init : goal.loop-after-init
loop-after-init c = rw c.start-run.ensures (begin _ _)

pub loop-after-smaller : goal.loop-after-smaller
loop-after-smaller c =
    let n = c.loop-after.run.count in
    let m = moves _ _ c.loop-after.invariant (skim-moves _ _ (omega arith)) (told (λ o. run_step_paper n (Ok o)) c.in_ok-after.ensures c.in-Some.is) (omega arith) in
    omega arith

pub loop-after-preserved : goal.loop-after-preserved
loop-after-preserved c =
    let n = c.loop-after.run.count in
    more _ _ c.loop-after.invariant (skim-moves _ _ (omega arith)) (told (λ o. run_step_paper n (Ok o)) c.in_ok-after.ensures c.in-Some.is) (omega arith)

pub returns-in_err-after : goal.returns-in_err-after
returns-in_err-after c =
    let n = c.loop-after.run.count in
    rw (raised c.from_residual.ensures) (finish _ _ c.loop-after.invariant (told (run_step_paper n) c.next_with_limit.ensures c.in_err-after.was) ∙ skim-said _ _)

pub returns : goal.returns
returns c =
    let n = c.loop-after.run.count in
    finish _ _ c.loop-after.invariant (told (λ o. run_step_paper n (Ok o)) c.in_ok-after.ensures c.in_default.is) ∙ skim-said _ _
