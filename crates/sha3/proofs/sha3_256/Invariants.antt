use Rattle.std.proofs.Common.{◌≡◌, ◌*◌, drop}
use Rattle.sha3.proofs.Sponge.{absorbs}
use Rattle.sha3.proofs.sha3_256.Given as goal

-- what is left of the message gives from here on what all of it gives from the start
abbrev pub invariant-loop-block : goal.invariant-loop-block
invariant-loop-block l = absorbs l.s (drop (136 * l.block-index) l.m) ≡ absorbs l.initial.s l.m
