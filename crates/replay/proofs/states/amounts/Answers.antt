use Rattle.replay.proofs.Laying.{twice-four}
use Rattle.replay.proofs.states.amounts.Goals as goal

pub returns : goal.returns
returns c = twice-four _ _ _ _ _ _ _ _ c.join.ensures c.words_bytes-first.ensures c.words_bytes-second.ensures
