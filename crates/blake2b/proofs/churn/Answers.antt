use Rattle.blake2b.specs.Blake2b.{rounds}
use Rattle.blake2b.proofs.churn.Goals as goal

pub returns : goal.returns
unfolding rounds
returns c = cc
