use native.Mathlib.Omega.{arith}
use mathlib.Core.Path.{◌≡◌, refl, sym, ◌∙◌}
use Prim.Native.Nat.{◌+◌}
use mathlib.Core.List.{[]}
use lib.ListN.{drop, length-set, drop_of_length-le}
use Rattle.words.proofs.Over.{over-sets, copy_more}
use Rattle.words.proofs.store.store_bytes.Goals as goal

pub loop-i-init : goal.loop-i-init
loop-i-init c =
    let p : c.args.at + 0 ≡ c.args.at = omega arith in
    (refl, rw p)

pub loop-i-preserved : goal.loop-i-preserved
loop-i-preserved c =
    let l = c.loop-i in
    let step = copy_more l.d c.args.s.now {j = c.args.at + l.i} {j' = c.args.at + (l.i + 1)} {f = l.i} {f' = l.i + 1} (omega arith) (omega arith) (omega arith) in
    (simp length-set l.invariant.0, sym step ∙ l.invariant.1)

pub returns : goal.returns
returns c =
    let l = c.loop-i in
    let q : drop l.i c.args.s.now ≡ [] = drop_of_length-le c.args.s.now {i = l.i} (omega arith) in
    (rw q at l.invariant.1) ∙ over-sets c.args.at c.args.s.now c.args.d.now c.requires
