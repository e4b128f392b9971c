use Rattle.blake2b.proofs.Rounds.{start_is}
use Rattle.blake2b.proofs.begin.Goals as goal

pub returns : goal.returns
returns c =
    start_is c.args.h c.args.t c.inverted.result c.args.last c.ranges.t.fits c.inverted.ensures
