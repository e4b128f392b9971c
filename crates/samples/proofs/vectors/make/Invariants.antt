use mathlib.Core.Path.{◌≡◌}
use Prim.Native.Nat.{◌-◌}
use lib.ListN.{length}
use lib.Seq.{sets}
use Rattle.samples.specs.Vectors.{ruled}
use Rattle.samples.proofs.vectors.make.Given as goal

abbrev pub invariant-loop-i : goal.invariant-loop-i
invariant-loop-i l = (l.n ≡ length l.initial.out) × (sets l.out l.i (ruled l.n l.i (l.n - l.i)) ≡ sets l.initial.out 0 (ruled l.n 0 l.n))
