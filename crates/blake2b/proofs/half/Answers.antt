use Rattle.blake2b.proofs.Rounds.{half-law}
use Rattle.blake2b.proofs.half.Goals as goal

pub returns : goal.returns
returns g c = half-law g.row.R g.row.S _ _ _ _ _ c.requires c.rotate_right-d.ensures c.rotate_right-b.ensures
