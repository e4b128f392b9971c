use native.Mathlib.Omega.{arith}
use mathlib.Core.Path.{◌∙◌}
use Prim.Native.Nat.{◌+◌}
use lib.ListN.{set, length-set}
use Rattle.words.specs.Words.{bytes}
use Rattle.words.proofs.Le.{length-bytes}
use Rattle.words.proofs.Over.{laid-over, over-cons}
use Rattle.encoding.proofs.put.put_tagged.Goals as goal

pub shape_of-d : goal.shape_of-d
shape_of-d c = c.put_le.auto.d ∙ simp length-set

pub returns : goal.returns
returns c =
    let a = c.args in
    c.put_le.ensures.1 ∙ laid-over (a.at + 1) (bytes a.n a.v) (set a.d.now a.at a.tag) a.n (length-bytes _ _) (simp length-set (omega arith)) ∙ over-cons _ _ _ _ (omega (arith, length-bytes a.n a.v))
