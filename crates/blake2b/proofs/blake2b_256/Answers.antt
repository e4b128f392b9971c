use Rattle.std.proofs.Common.{◌≡◌, ◌/◌, ap, ◌∙◌, arith}
use Rattle.blake2b.specs.Blake2b.{chain, digest, blake2b}
use Rattle.blake2b.proofs.Blocks.{chain_more, chain-last}
use Rattle.blake2b.proofs.blake2b_256.Goals as goal

pub loop-i-init : goal.loop-i-init
unfolding chain
loop-i-init c = c.initial-h.ensures

pub loop-i-preserved : goal.loop-i-preserved
loop-i-preserved c =
    let l = c.loop-i in
    c.absorb.ensures ∙ chain_more c.args.m.now l.i (omega arith) l.invariant

pub returns : goal.returns
unfolding blake2b
returns c =
    let l = c.loop-i in
    let all : c.saturating_sub-before.result / 128 ≡ l.i = omega arith in
    c.squeeze.ensures ∙ ap digest (c.absorb-2.ensures ∙ rw (← all) at (chain-last c.args.m.now l.i (omega arith) l.invariant (omega arith)))
