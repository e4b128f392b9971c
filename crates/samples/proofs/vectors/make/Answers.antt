use native.Mathlib.Omega.{arith}
use mathlib.Core.Path.{◌≡◌, refl, sym, ◌∙◌}
use Prim.Native.Nat.{◌+◌, ◌-◌}
use lib.ListN.{length}
use Rattle.words.proofs.Over.{over-sets, over-all}
use Rattle.samples.specs.Vectors.{ruled, made}
use Rattle.samples.proofs.Rule.{length-ruled, ruled-more}
use Rattle.samples.proofs.vectors.make.Goals as goal

pub loop-i-init : goal.loop-i-init
loop-i-init c = let q : length c.args.out.now - 0 ≡ length c.args.out.now = omega arith in (refl, rw q)

pub loop-i-preserved : goal.loop-i-preserved
loop-i-preserved c =
    let l = c.loop-i in
    let n = length c.args.out.now in
    let step = ruled-more l.out n {i = l.i} {i' = l.i + 1} {k = n - (l.i + 1)} {k' = n - l.i} (omega arith) (omega arith) in
    (refl, sym step ∙ l.invariant.1)

pub returns : goal.returns
unfolding ruled made
returns c =
    let l = c.loop-i in
    let d = c.args.out.now in
    let n = length d in
    let done : n - l.i ≡ 0 = omega arith in
    (rw done at l.invariant.1) ∙ over-sets 0 (ruled n 0 n) d (omega (arith, length-ruled n 0 n)) ∙ over-all (ruled n 0 n) d (length-ruled n 0 n)
