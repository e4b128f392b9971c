use Rattle.replay.proofs.Laying.{twice-four}
use Rattle.replay.proofs.answers.refused.Goals as goal

pub returns : goal.returns
returns c = rw (c.number.ensures, c.carried_by-carried.ensures) at (twice-four _ _ _ _ _ _ _ _ c.join.ensures c.words_bytes-first.ensures c.words_bytes.ensures)
