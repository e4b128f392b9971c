use Rattle.blake2b.specs.Blake2b.{cols}
use Rattle.blake2b.specs.Workers.{four}
use Rattle.blake2b.proofs.columns.Goals as goal

pub returns : goal.returns
unfolding four cols
returns c = c.mix.ensures
