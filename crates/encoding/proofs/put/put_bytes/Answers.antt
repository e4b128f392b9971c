use mathlib.Core.Path.{refl}
use Rattle.encoding.proofs.Compact.{put-said}
use Rattle.encoding.proofs.put.put_bytes.Goals as goal

pub returns : goal.returns
returns c = (put-said _ _ _ _ refl c.put_bytes.ensures.0 c.answered.ensures, c.put_bytes.ensures.1)
