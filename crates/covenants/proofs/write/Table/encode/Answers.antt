use native.Mathlib.Omega.{arith}
use borrow.Author.Tests.{leb-true, leb-false}
use mathlib.Core.Path.{sym, ◌∙◌}
use Rattle.refusal.proofs.Outcomes.{told, raised}
use Rattle.refusal.specs.Paper.{put_paper}
use Rattle.covenants.proofs.Checks.{table-passed}
use Rattle.covenants.proofs.Laying.{encode-refused, encode-none, encode-room}
use Rattle.covenants.proofs.write.Table.encode.Goals as goal

pub returns-in_err-needed : goal.returns-in_err-needed
returns-in_err-needed c =
    let made = encode-refused _ _ _ _ _ _ _ _ (told put_paper c.size.ensures c.in_err-needed.was) in
    record { result_value = rw (raised c.from_residual.ensures) made.0; dest_after = made.1 }

pub returns-then-not-has_room : goal.returns-then-not-has_room
returns-then-not-has_room c =
    let e = told put_paper c.size.ensures c.in_ok-needed.was in
    let h = leb-false _ _ (sym c.has_room.ensures ∙ c.if-not-has_room.true) in
    let made = encode-none _ _ _ _ _ _ _ _ e ((table-passed _ _ _ _ _ e).0.size c.args.kind) (omega (arith, h)) in
    record { result_value = made.0; dest_after = made.1 }

pub write_all-requires : goal.write_all-requires
write_all-requires c =
    let w = table-passed c.args.self.source.now c.args.self.starts.now c.args.self.lens.now c.args.self.first c.args.self.count (told put_paper c.size.ensures c.in_ok-needed.was) in
    let h = leb-true _ _ (sym c.has_room.ensures ∙ c.if-not-has_room.false) in
    record { there = (w.1, w.2, w.0.held); count_in_bounds = omega (arith, h, w.0.size c.args.kind) }

pub returns : goal.returns
returns c =
    let e = told put_paper c.size.ensures c.in_ok-needed.was in
    let h = leb-true _ _ (sym c.has_room.ensures ∙ c.if-not-has_room.false) in
    let made = encode-room _ _ _ _ _ _ _ _ e ((table-passed _ _ _ _ _ e).0.size c.args.kind) (omega (arith, h)) c.write_all.ensures in
    record { result_value = made.0; dest_after = made.1 }
