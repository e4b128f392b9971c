use mathlib.Core.Path.{◌≡◌}
use Prim.Native.Nat.{◌*◌}
use lib.ListN.{drop}
use Rattle.words.specs.Sameness.{same}
use Rattle.words.proofs.same.same_bytes.Given as goal

abbrev pub invariant-loop-i : goal.invariant-loop-i
invariant-loop-i l = same l.fn.a l.fn.b ≡ same (drop (8 * l.i) l.fn.a) (drop (8 * l.i) l.fn.b)

abbrev pub invariant-loop-j : goal.invariant-loop-j
invariant-loop-j l = same l.fn.a l.fn.b ≡ same (drop l.j l.rest) (drop l.j l.other_rest)
