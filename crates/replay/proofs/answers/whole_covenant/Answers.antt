use Rattle.covenants.specs.Covenant.{whole_covenant}
use Rattle.replay.proofs.Laying.{skimmed-decoded}
use Rattle.replay.proofs.answers.whole_covenant.Goals as goal

pub returns-in-Ok : goal.returns-in-Ok
returns-in-Ok c = rw (← skimmed-decoded (whole_covenant c.args.a.now) c.decode.ensures, c.in-Ok.is) c.accepted.ensures
