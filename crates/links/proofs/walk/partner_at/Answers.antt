use Rattle.encoding.specs.Paper.{read_paper}
use Rattle.refusal.proofs.Outcomes.{told}
use Rattle.links.proofs.Walking.{partner-none, partner-is}
use Rattle.links.proofs.walk.partner_at.Goals as goal

pub returns-then-left-eq0 : goal.returns-then-left-eq0
returns-then-left-eq0 c = partner-none _ _ c.if-left-eq0.true

pub returns-in-Ok : goal.returns-in-Ok
returns-in-Ok c = let e = told read_paper c.place_at.ensures c.in-Ok.is in partner-is _ _ c.if-left-eq0.false e

pub returns-in-Err : goal.returns-in-Err
returns-in-Err c = let e = told read_paper c.place_at.ensures c.in-Err.is in partner-is _ _ c.if-left-eq0.false e
