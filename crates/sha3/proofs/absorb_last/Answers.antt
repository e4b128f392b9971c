use Rattle.std.proofs.Common.{ap, ◌∙◌}
use Rattle.sha3.specs.Keccak.{keccak_p}
use Rattle.sha3.specs.Sha3.{block}
use Rattle.sha3.proofs.Padding.{last-bits}
use Rattle.sha3.proofs.absorb_last.Goals as goal

pub returns : goal.returns
returns c = c.absorb_block.ensures ∙ ap (block keccak_p 1088 c.args.s.now) (last-bits c.args.rest.now c.requires c.copy_from_slice.ensures.after)
