use native.Mathlib.Omega.{arith}
use mathlib.Core.Path.{ap, sym, ◌∙◌, subst}
use Prim.Native.Nat.{ℕ, ◌+◌}
use Rattle.refusal.proofs.Outcomes.{told}
use Rattle.links.specs.Rules.{one}
use Rattle.links.specs.Verify as verify
use Rattle.checks.specs.Paper.{step_paper}
use Rattle.links.specs.Workers.{turn_at, Ahead}
use Rattle.checks.proofs.Comparing as comparing
use Rattle.links.proofs.Turning as turning
use Rattle.links.proofs.Walking as walking
use Rattle.links.proofs.walk.walk.Goals as goal

pub trailing-requires : goal.trailing-requires
trailing-requires c = rw c.saturating_sub-left-2.ensures (omega (arith, c.requires.few), walking.leftover _ _ _ _ c.loop-i.invariant c.loop-i-test.false)

pub start_row-requires : goal.start_row-requires
start_row-requires c = (walking.bounds _ _ _ _ c.loop-i.invariant c.loop-i-test.true).1

pub loop-j-init : goal.loop-j-init
loop-j-init c = comparing.none-compared _ _ (turning.fitting _ _ _ _ _ c.loop-k.invariant (c.loop-i.invariant.long.1, c.loop-i.invariant.long.0) c.loop-k-test.true c.pair_of.ensures c.in-Ok-pair_of.is)

pub loop-j-preserved : goal.loop-j-preserved
loop-j-preserved c = comparing.byte-same _ _ c.loop-j.invariant c.loop-j-test.true c.if-coins-pair.false

pub loop-k-preserved : goal.loop-k-preserved
loop-k-preserved c = turning.equal _ _ _ _ _ c.loop-k.invariant (c.loop-i.invariant.long.1, c.loop-i.invariant.long.0) c.loop-k-test.true c.pair_of.ensures c.in-Ok-pair_of.is (comparing.bytes_same _ _ c.loop-j.invariant c.loop-j-test.false)

pub overflow_add-input_position : goal.overflow_add-input_position
overflow_add-input_position c = let bd = walking.bounds _ _ _ _ c.loop-i.invariant c.loop-i-test.true in omega (arith, bd, c.loop-i.invariant.long)

pub loop-i-preserved : goal.loop-i-preserved
loop-i-preserved c =
    let k = c.loop-i in
    let same = walking.same _ _ c.ne.ensures c.if-ne.false in
    let done = turning.finished _ _ _ _ _ c.loop-k.invariant c.loop-k-test.false (sym (told step_paper c.finish_row.ensures c.in-Ok-finish_row.is)) in
    walking.more _ _ _ _ k.invariant c.loop-i-test.true c.outpoint_at-expected.ensures c.outpoint_at-actual.ensures same ((rw c.saturating_sub-left.ensures at (sym done)))
    (ap (λ (x : ℕ). k.linked_outputs + x) (c.from-linked_outputs.ensures ∙ walking.counted _))
    (ap (λ (x : ℕ). k.name_inputs + x) (c.from-name_inputs.ensures ∙ walking.counted _ ∙ ap one c.is_name.ensures))

pub returns-after-loop-i : goal.returns-after-loop-i
returns-after-loop-i c = (rw c.saturating_sub-left-2.ensures at c.trailing.ensures) ∙ ap verify.answer_of (walking.ended _ _ _ _ c.loop-i.invariant c.loop-i-test.false)

pub returns-then-ne : goal.returns-then-ne
returns-then-ne c = c.mismatch.ensures ∙ ap verify.answer_of (walking.differing _ _ _ _ c.loop-i.invariant c.loop-i-test.true c.outpoint_at-expected.ensures c.outpoint_at-actual.ensures (walking.other _ _ c.ne.ensures c.if-ne.true))

pub returns-in-Err : goal.returns-in-Err
returns-in-Err c =
    let k = c.loop-i in
    let same = walking.same _ _ c.ne.ensures c.if-ne.false in
    let stop = subst (Ahead c.args.tx.now c.args.coins.now k.i (turn_at c.args.tx.now c.args.coins.now k.i k.coin_position k.output_position c.saturating_sub-left.result)) c.in-Err.is c.start_row.ensures in
    rw c.from.ensures (ap verify.answer_of (walking.stopped _ _ _ _ k.invariant c.loop-i-test.true c.outpoint_at-expected.ensures c.outpoint_at-actual.ensures same (rw c.saturating_sub-left.ensures at (sym stop))))

pub returns-in-Err-pair_of : goal.returns-in-Err-pair_of
returns-in-Err-pair_of c =
    let same = walking.same _ _ c.ne.ensures c.if-ne.false in
    let stop = turning.malformed _ _ _ _ _ c.loop-k.invariant (c.loop-i.invariant.long.1, c.loop-i.invariant.long.0) c.loop-k-test.true c.pair_of.ensures c.in-Err-pair_of.is in
    rw c.from-in-Err-pair_of.ensures (ap verify.answer_of (walking.stopped _ _ _ _ c.loop-i.invariant c.loop-i-test.true c.outpoint_at-expected.ensures c.outpoint_at-actual.ensures same (rw c.saturating_sub-left.ensures at (sym stop))))

pub returns-then-coins-pair : goal.returns-then-coins-pair
returns-then-coins-pair c =
    let same = walking.same _ _ c.ne.ensures c.if-ne.false in
    let other = comparing.byte-differs _ _ c.loop-j.invariant c.loop-j-test.true c.if-coins-pair.true in
    let stop = turning.unequal _ _ _ _ _ c.loop-k.invariant (c.loop-i.invariant.long.1, c.loop-i.invariant.long.0) c.loop-k-test.true c.pair_of.ensures c.in-Ok-pair_of.is c.unequal.ensures other in
    rw c.from-then-coins-pair.ensures (ap verify.answer_of (walking.stopped _ _ _ _ c.loop-i.invariant c.loop-i-test.true c.outpoint_at-expected.ensures c.outpoint_at-actual.ensures same (rw c.saturating_sub-left.ensures at (sym stop))))

pub returns-in-Err-finish_row : goal.returns-in-Err-finish_row
returns-in-Err-finish_row c =
    let same = walking.same _ _ c.ne.ensures c.if-ne.false in
    let stop = turning.finished _ _ _ _ _ c.loop-k.invariant c.loop-k-test.false (sym (told step_paper c.finish_row.ensures c.in-Err-finish_row.is)) in
    rw c.from-in-Err-finish_row.ensures (ap verify.answer_of (walking.stopped _ _ _ _ c.loop-i.invariant c.loop-i-test.true c.outpoint_at-expected.ensures c.outpoint_at-actual.ensures same (rw c.saturating_sub-left.ensures at (sym stop))))
