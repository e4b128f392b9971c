use Rattle.replay.proofs.Laying.{twice-four}
use Rattle.replay.proofs.answers.accepted.Goals as goal

pub returns : goal.returns
returns c = twice-four _ _ _ _ _ _ _ _ c.join.ensures c.words_bytes.ensures c.words_bytes-others.ensures
