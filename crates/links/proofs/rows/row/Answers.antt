use Rattle.links.proofs.rows.row.Goals as goal

pub returns-in_default : goal.returns-in_default
returns-in_default c = rw c.in_default.is (c.lone_turn.ensures _ _)
