use Rattle.std.proofs.Common.{arith}
use Rattle.std.proofs.lemmas.Grind.{common_steps}
use Rattle.sha3.specs.Keccak.{plane}
use Rattle.sha3.proofs.keccak.theta_plane.Goals as goal

pub returns : goal.returns
unfolding plane
returns c = grind (arith, common_steps)
