use Rattle.blake2b.specs.Blake2b.{F}
use Rattle.blake2b.proofs.compress.Goals as goal

pub returns : goal.returns
unfolding F
returns c = cc
