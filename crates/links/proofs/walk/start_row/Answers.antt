use native.Mathlib.Omega.{arith}
use mathlib.Core.Path.{◌≡◌}
use Rattle.encoding.specs.Paper.{read_paper}
use Rattle.refusal.proofs.Outcomes.{told, raised}
use Rattle.checks.proofs.Judging.{kept, turned}
use Rattle.links.specs.Workers.{turn_at}
use Rattle.links.proofs.walk.start_row.Goals as goal

pub returns-in_err-spent : goal.returns-in_err-spent
unfolding turn_at
returns-in_err-spent c =
    let m = turned _ c.place_at.result c.map_err.ensures.cases c.in_err-spent.was in
    let q : c.in_err-spent.field-0.0 ≡ m.0.refusal = grind arith in
    let e = (rw c.gap_of.ensures at (told read_paper c.place_at.ensures m.1)) in
    rw (raised c.from_residual.ensures, q, e)

pub returns : goal.returns
unfolding turn_at
returns c =
    let e = (rw c.gap_of.ensures at (told read_paper c.place_at.ensures (kept _ c.place_at.result c.map_err.ensures.cases c.in_ok-spent.was))) in
    rw (e, ← c.partner_at-beside.ensures) c.row.ensures
