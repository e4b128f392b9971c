use Rattle.std.proofs.Common.{ℕ, true, List, ◌∷◌, ◌++◌, replicate, ap, ◌∙◌}
use Rattle.blake2b.specs.Blake2b.{F, digest, blake2b}
use Rattle.blake2b.proofs.Blocks.{value-nonce}
use Rattle.blake2b.proofs.blake2b_256_value_nonce.Goals as goal

pub returns : goal.returns
unfolding blake2b
returns c =
    let v = c.args.value in
    c.squeeze.ensures
    ∙ ap digest
    (c.compress.ensures
    ∙ ap (λ (h : List ℕ). F h (v ∷ c.load_words.new.out ++ replicate 11 0) 40 true) c.initial-h.ensures
    ∙ value-nonce v c.args.nonce.now c.ranges.value.fits c.told-nonce c.load_words.ensures)
