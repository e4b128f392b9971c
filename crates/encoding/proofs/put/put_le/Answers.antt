use Rattle.words.proofs.Le.{length-bytes}
use Rattle.encoding.proofs.Compact.{put-said}
use Rattle.encoding.proofs.put.put_le.Goals as goal

pub returns-clause-result_value : goal.returns-clause-result_value
returns-clause-result_value g c =
    let wide = rw c.WIDTH-2.ensures at c.answered.ensures in
    let done = rw (c.WIDTH.ensures, c.into_u64.ensures) at c.put_le.ensures.0 in
    put-said _ _ _ _ (length-bytes _ _) done wide
