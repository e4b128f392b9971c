use Rattle.std.proofs.Common.{ℕ, Iter, refl, ap, ◌∙◌, rules}
use Rattle.sha3.specs.Keccak.{shifted, register}
use Rattle.sha3.proofs.Constants.{turned, spelt, right, round_with, all-rounds}
use Rattle.sha3.proofs.keccak.permute.Goals as goal

pub returns : goal.returns
unfolding turned spelt right shifted register
returns c =
    let h = c.fold.ensures.runs in
    let p = c.copied.ensures.runs h.0 h.0.seen h.1 in
    let table = p.2.2 ∙ (c.iter.ensures.runs p.0 p.0.seen).4 (p.2.0 ∙ h.2) ∙ ap (λ (i : Iter ℕ). i.rest.now) p.1 ∙ c.iter.ensures.rest in
    all-rounds c.args.a (h.3 round_with (λ s y r f k. search rules)) table refl tt
