use mathlib.Core.Path.{refl}
use Rattle.words.specs.Buffers.{zero_padded}
use Rattle.covenants.proofs.decode.clear.Goals as goal

pub returns : goal.returns
unfolding zero_padded
returns c = (refl, refl)
