use native.Mathlib.Omega.{arith}
use Rattle.refusal.proofs.Outcomes.{told, raised}
use Rattle.encoding.specs.Paper.{moved_paper}
use Rattle.covenants.specs.Paper.{head_paper}
use Rattle.covenants.proofs.Moves.{opened-head, skim-refused, skim-stopped, skim-ended, skim-later}
use Rattle.covenants.proofs.Directory.{tells-kept, tells-refused}
use Rattle.covenants.proofs.Covenant.decode_from_into.Goals as goal

pub fill-requires : goal.fill-requires
fill-requires c = let h = opened-head _ _ _ (told head_paper c.open.ensures c.in-Ok.is) (omega arith) in (omega (arith, h.later), h.few)

pub returns-in_err-end-in-Ok : goal.returns-in_err-end-in-Ok
returns-in_err-end-in-Ok c =
    let e = told head_paper c.open.ensures c.in-Ok.is in
    let made = tells-kept _ _ _ c.new-reader.ensures e (skim-stopped _ _ _ c.new-reader.ensures e (told moved_paper c.fill.ensures.result_value c.in_err-end-in-Ok.was)) (c.fill.ensures.starts_after, c.fill.ensures.lens_after) in
    record { result_value = rw (raised c.from_residual.ensures) made.0; starts_after = made.1.0; lens_after = made.1.1 }

pub accepted-requires : goal.accepted-requires
accepted-requires c = skim-later _ _ _ c.new-reader.ensures (told head_paper c.open.ensures c.in-Ok.is) (omega arith) (told moved_paper c.fill.ensures.result_value c.in_ok-end-in-Ok.was)

pub returns-in_ok-end-in-Ok : goal.returns-in_ok-end-in-Ok
returns-in_ok-end-in-Ok c =
    let e = told head_paper c.open.ensures c.in-Ok.is in
    let made = tells-kept _ _ _ c.new-reader.ensures e (skim-ended _ _ _ c.new-reader.ensures e (told moved_paper c.fill.ensures.result_value c.in_ok-end-in-Ok.was)) (c.fill.ensures.starts_after, c.fill.ensures.lens_after) in
    record { result_value = rw (c.accepted.ensures.0, c.accepted.ensures.1, c.accepted.ensures.2) made.0; starts_after = made.1.0; lens_after = made.1.1 }

pub returns-in-Err : goal.returns-in-Err
returns-in-Err c =
    let made = tells-refused (skim-refused _ _ _ c.new-reader.ensures (told head_paper c.open.ensures c.in-Err.is)) c.clear.ensures in
    record { result_value = made.0; starts_after = made.1.0; lens_after = made.1.1 }
