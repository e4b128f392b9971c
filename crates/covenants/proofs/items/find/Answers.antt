use native.Mathlib.Omega.{arith}
use Rattle.refusal.proofs.Outcomes.{told}
use Rattle.encoding.specs.Paper.{span_paper, moved_paper}
use Rattle.covenants.specs.Paper.{head_paper}
use Rattle.covenants.proofs.Moves.{head_read}
use Rattle.covenants.proofs.Places.{ok_kept, err-kept, seek-refused, seek-past, seek-cut, seek-found, seek-later}
use Rattle.covenants.proofs.items.find.Goals as goal

pub returns-in_err-head : goal.returns-in_err-head
returns-in_err-head c =
    let e = told head_paper c.head.ensures (err-kept c.ok.ensures.value c.in_err-head.was).1 in
    rw c.from_residual.ensures (seek-refused _ _ _ c.new-reader.ensures e)

pub returns-then-head-index : goal.returns-then-head-index
returns-then-head-index c =
    let e = told head_paper c.head.ensures (ok_kept c.ok.ensures.value c.in_ok-head.was) in
    seek-past _ _ _ c.new-reader.ensures e c.if-head-index.true

pub pass_items-requires : goal.pass_items-requires
pass_items-requires c =
    let e = told head_paper c.head.ensures (ok_kept c.ok.ensures.value c.in_ok-head.was) in
    let h = head_read _ _ _ (omega arith) e in
    omega (arith, h.later)

pub returns-in_err-next : goal.returns-in_err-next
returns-in_err-next c =
    let e = told head_paper c.head.ensures (ok_kept c.ok.ensures.value c.in_ok-head.was) in
    let f = told moved_paper c.pass_items.ensures (err-kept c.ok-2.ensures.value c.in_err-next.was).1 in
    rw c.from_residual-in_err-next.ensures (seek-cut _ _ _ c.new-reader.ensures e c.if-head-index.false f)

pub item-requires : goal.item-requires
item-requires c =
    let e = told head_paper c.head.ensures (ok_kept c.ok.ensures.value c.in_ok-head.was) in
    let f = told moved_paper c.pass_items.ensures (ok_kept c.ok-2.ensures.value c.in_ok-next.was) in
    seek-later _ _ _ c.new-reader.ensures e c.if-head-index.false f (omega arith)

pub returns-in_err-item : goal.returns-in_err-item
returns-in_err-item c =
    let e = told head_paper c.head.ensures (ok_kept c.ok.ensures.value c.in_ok-head.was) in
    let f = told moved_paper c.pass_items.ensures (ok_kept c.ok-2.ensures.value c.in_ok-next.was) in
    let g = told span_paper c.item.ensures (err-kept c.ok-3.ensures.value c.in_err-item.was).1 in
    rw c.from_residual-in_err-item.ensures (seek-found _ _ _ c.new-reader.ensures e c.if-head-index.false f g)

pub returns : goal.returns
returns c =
    let e = told head_paper c.head.ensures (ok_kept c.ok.ensures.value c.in_ok-head.was) in
    let f = told moved_paper c.pass_items.ensures (ok_kept c.ok-2.ensures.value c.in_ok-next.was) in
    let g = told span_paper c.item.ensures (ok_kept c.ok-3.ensures.value c.in_ok-item.was) in
    seek-found _ _ _ c.new-reader.ensures e c.if-head-index.false f g
