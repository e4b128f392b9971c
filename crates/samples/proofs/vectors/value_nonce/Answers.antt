use mathlib.Core.Path.{ap, ◌∙◌}
use Rattle.blake2b.specs.Blake2b.{blake2b}
use Rattle.samples.proofs.Rule.{joined}
use Rattle.samples.proofs.vectors.value_nonce.Goals as goal

pub returns : goal.returns
returns c =
    let parts = (rw c.unwrap.ensures at c.split_last_chunk.ensures.cases) in
    c.blake2b_256_value_nonce.ensures ∙ ap blake2b (joined c.args.m.now _ _ _ c.requires (λ k. (c.type_inv.m k).fits) parts.0 parts.1 c.load_u64.ensures)
