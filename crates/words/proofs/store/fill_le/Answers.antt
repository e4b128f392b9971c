use native.Mathlib.Omega.{arith}
use mathlib.Core.Path.{◌≡◌, sym, ◌∙◌}
use Prim.Native.Nat.{◌+◌, ◌-◌}
use lib.ListN.{length}
use Rattle.words.specs.Words.{bytes}
use Rattle.words.proofs.Le.{length-bytes}
use Rattle.words.proofs.Over.{over-sets, over-all, sets_more}
use Rattle.words.proofs.store.fill_le.Goals as goal

pub loop-byte-init : goal.loop-byte-init
loop-byte-init c =
    let n : length c.args.d.now - 0 ≡ length c.args.d.now = omega arith in
    rw n

pub loop-byte-preserved : goal.loop-byte-preserved
loop-byte-preserved c =
    let l = c.loop-byte in
    let n = length c.args.d.now in
    let step = sets_more l.d {j = l.byte-index} {j' = l.byte-index + 1} {k = n - (l.byte-index + 1)} {k' = n - l.byte-index} l.rest (omega arith) (omega arith) in
    sym step ∙ l.invariant

pub returns : goal.returns
unfolding bytes
returns c =
    let l = c.loop-byte in
    let d = c.args.d.now in
    let n = length-bytes (length d) c.args.v in
    let done : length d - l.byte-index ≡ 0 = omega arith in
    (rw done at l.invariant) ∙ over-sets 0 (bytes (length d) c.args.v) d (omega arith) ∙ over-all (bytes (length d) c.args.v) d n
