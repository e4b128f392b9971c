use mathlib.Core.Path.{◌≡◌}
use Prim.Native.Nat.{◌+◌, ◌-◌}
use lib.ListN.{take, drop}
use Rattle.words.specs.Words.{le}
use Rattle.encoding.proofs.read.le_at.Given as goal

abbrev pub invariant-loop-i : goal.invariant-loop-i
invariant-loop-i l = l.v ≡ le (take (l.n - l.i) (drop (l.at + l.i) l.s))
