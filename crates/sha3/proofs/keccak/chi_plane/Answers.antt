use Rattle.std.proofs.Common.{refl}
use Rattle.sha3.specs.Keccak.{lane, plane, constant_added}
use Rattle.sha3.proofs.keccak.chi_plane.Goals as goal

pub returns : goal.returns
unfolding lane plane constant_added
returns c = refl
