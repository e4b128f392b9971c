use Rattle.std.proofs.Common.{ap, sym, ◌∙◌}
use Rattle.sha3.specs.Keccak.{keccak_p}
use Rattle.sha3.specs.Sha3.{mixed, block}
use Rattle.sha3.proofs.Bits.{lanes-bits}
use Rattle.sha3.proofs.absorb_block.Goals as goal

pub returns : goal.returns
unfolding block
returns c =
    let a = c.args in
    c.permute.ensures ∙ ap keccak_p (c.mix.ensures ∙ ap (mixed a.s.now) (sym (lanes-bits 17 a.p.now c.fits-p)))
