use Rattle.std.proofs.Common.{◌≡◌}
use Rattle.blake2b.specs.Blake2b.{chain}
use Rattle.blake2b.proofs.blake2b_256.Given as goal

abbrev pub invariant-loop-i : goal.invariant-loop-i
invariant-loop-i l = l.h ≡ chain l.i l.m
