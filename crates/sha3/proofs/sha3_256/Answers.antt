use Rattle.std.proofs.Common.{◌≡◌, List, ℕ, ◌*◌, ◌/◌, length, take, drop, sym, ap, ◌∙◌, arith}
use Rattle.std.proofs.lemmas.List.{length-take, get_or-take}
use Rattle.sha3.specs.Sha3.{bits_of, packed, sponge, keccak, sha3}
use Rattle.sha3.proofs.Sponge.{absorbs, absorbs-last, absorbs-chunk}
use Rattle.sha3.proofs.sha3_256.Goals as goal

pub loop-block-preserved : goal.loop-block-preserved
loop-block-preserved c =
    let l = c.loop-block in
    let m = c.args.m.now in
    absorbs-chunk l.s m l.block-index c.absorb_block.ensures (grind (arith, length-take, get_or-take, c.as_chunks.ensures.front))
    (grind (arith, length-take, c.as_chunks.ensures.front_len))
    ∙ l.invariant

pub returns : goal.returns
unfolding sponge keccak sha3
returns c =
    let l = c.loop-block in
    let m = c.args.m.now in
    let all : length m / 136 * 136 ≡ 136 * l.block-index = grind (arith, length-take, c.as_chunks.ensures.front_len) in
    let rest : c.as_chunks.result.1.now ≡ drop (136 * l.block-index) m = c.as_chunks.ensures.back ∙ ap (λ (k : ℕ). drop k m) all in
    c.squeeze.ensures
    ∙ ap (λ (s : List ℕ). packed 8 32 (take 256 (bits_of 64 s)))
    (c.absorb_last.ensures ∙ sym (absorbs-last l.s c.as_chunks.result.1.now (omega (arith, c.as_chunks.ensures.back_len))) ∙ ap (absorbs l.s) rest ∙ l.invariant)
