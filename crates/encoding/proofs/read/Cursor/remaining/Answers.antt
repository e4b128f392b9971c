use Rattle.encoding.specs.Wire.{remaining_at}
use Rattle.encoding.proofs.read.Cursor.remaining.Goals as goal

pub returns : goal.returns
unfolding remaining_at
returns c = c.saturating_sub.ensures
