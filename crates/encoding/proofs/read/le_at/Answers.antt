use native.Mathlib.Omega.{arith}
use mathlib.Core.Path.{◌≡◌}
use Prim.Native.Nat.{◌+◌, ◌-◌}
use Rattle.words.specs.Words.{le}
use Rattle.words.proofs.Le.{le-under, le-more}
use Rattle.encoding.proofs.read.le_at.Goals as goal

pub loop-i-init : goal.loop-i-init
unfolding le
loop-i-init c =
    let n = c.args.n in
    let z : n - n ≡ 0 = omega arith in
    rw z

pub overflow_mul-v : goal.overflow_mul-v
overflow_mul-v c =
    let a = c.args in
    let l = c.loop-i in
    omega (arith, l.invariant, le-under a.s.now (a.at + l.i) (a.n - l.i) 7 (λ k. (c.type_inv.s k).fits) (omega arith))

pub overflow_add-v : goal.overflow_add-v
overflow_add-v c =
    let a = c.args in
    let l = c.loop-i in
    let known = c.type_inv.s in
    omega (arith, l.invariant, c.from.ensures, known (a.at + (l.i - 1)), le-under a.s.now (a.at + l.i) (a.n - l.i) 7 (λ k. (known k).fits) (omega arith))

pub loop-i-preserved : goal.loop-i-preserved
loop-i-preserved c =
    let a = c.args in
    let l = c.loop-i in
    cc (le-more a.s.now {at = a.at + (l.i - 1)} {at' = a.at + l.i} {k = a.n - l.i} {k' = a.n - (l.i - 1)} (omega arith) (omega arith) (omega arith))

pub returns : goal.returns
returns c =
    let a = c.args in
    let l = c.loop-i in
    let p : a.n - l.i ≡ a.n = omega arith in
    let q : a.at + l.i ≡ a.at = omega arith in
    cc
