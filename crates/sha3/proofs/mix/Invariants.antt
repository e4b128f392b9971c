use Rattle.std.proofs.Common.{◌≡◌, take}
use Rattle.words.specs.Words.{lanes}
use Rattle.sha3.specs.Sha3.{mixed}
use Rattle.sha3.proofs.mix.Given as goal

-- the first i lanes of the block p are taken in
abbrev pub invariant-loop-i : goal.invariant-loop-i
invariant-loop-i l = l.t ≡ mixed l.initial.t (take l.i (lanes 17 l.p))
