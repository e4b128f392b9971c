use native.Mathlib.Omega.{arith}
use Prim.Native.Nat.{◌≤◌}
use Rattle.covenants.proofs.Directory.{more}
use Rattle.covenants.proofs.OneByte.{short-item}
use Rattle.covenants.proofs.Reader.short_entries.Goals as goal

pub loop-passed-preserved : goal.loop-passed-preserved
loop-passed-preserved c =
    let h = rw c.in-Some.is at c.short_item.ensures in
    let later : c.args.self.start ≤ c.in-Some.next = omega (arith, h.goes, c.loop-passed.invariant.0) in
    (later, omega arith, omega arith, λ first f. more _ (c.loop-passed.invariant.3 first f) c.loop-passed-test.true later (short-item _ _ _ (omega arith) c.loop-passed.invariant.0 h (omega (arith, h.fits)) (omega (arith, h.fits))))
