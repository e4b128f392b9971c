use Rattle.std.proofs.Common.{refl}
use Rattle.blake2b.specs.Blake2b.{word}
use Rattle.blake2b.proofs.pick.Goals as goal

pub returns : goal.returns
unfolding word
returns c = refl
