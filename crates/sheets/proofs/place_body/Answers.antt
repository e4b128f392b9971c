use mathlib.Core.Path.{sym}
use Rattle.refusal.proofs.Outcomes.{raised}
use Rattle.sheets.proofs.Reading.{body-placed, body-stopped}
use Rattle.sheets.proofs.place_body.Goals as goal

pub returns-in_err-accepted : goal.returns-in_err-accepted
returns-in_err-accepted c =
    rw (raised c.from_residual-in_err-accepted.ensures)
    (sym (body-stopped _ _ _ _ _ (sym c.in_ok-hash.ensures) (sym c.in_err-accepted.ensures)))

pub returns : goal.returns
returns c = sym (body-placed _ _ _ _ _ (sym c.in_ok-hash.ensures) (sym c.in_ok-accepted.ensures))
