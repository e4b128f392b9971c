use Rattle.covenants.proofs.Laying.{begin, next-held, next_fits, more, ended}
use native.Mathlib.Omega.{arith}
use Rattle.covenants.proofs.write.Table.put_items.Goals as goal

pub loop-i-init : goal.loop-i-init
loop-i-init c = (c.requires.there.0, c.requires.there.1, begin _ _ _ _ _ _ _ c.requires.there.2 c.requires.count_in_bounds)

pub put_item-at-requires : goal.put_item-at-requires
put_item-at-requires c = (next-held _ _ _ _ _ _ _ c.loop-i.invariant.2 (omega arith), next_fits _ _ _ _ _ _ _ c.loop-i.invariant.2 (omega arith))

pub loop-i-preserved : goal.loop-i-preserved
loop-i-preserved c = (c.loop-i.invariant.0, c.loop-i.invariant.1, more _ _ _ _ _ _ _ c.loop-i.invariant.2 (omega arith) c.put_item-at.ensures.0 c.put_item-at.ensures.1)

pub returns : goal.returns
returns c = ended _ _ _ _ _ _ _ c.loop-i.invariant.2 (omega arith)
