use borrow.Author.Rules.{rules}
use native.Mathlib.Omega.{arith}
use mathlib.Core.Path.{◌≡◌, ap, ◌∙◌}
use lib.ListN.{length}
use Rattle.names.specs.Blind.{blind_of}
use Rattle.covenants.specs.Covenant.{bytes_in}
use Rattle.words.specs.Sameness.{same}
use Rattle.covenants.proofs.Parts.{own-part}
use Rattle.checks.proofs.Judging.{bytes-read, bytes_are}
use Rattle.checks.proofs.Spending.commits.Goals as goal

pub unwrap-requires : goal.unwrap-requires
unwrap-requires c = bytes-read _ _ (omega arith, omega arith) _ c.read_array.ensures

pub returns : goal.returns
returns c =
    let h : length c.blind_bid-blinded.result ≡ 32 = search rules in
    let n = bytes_are _ _ (omega arith, omega arith) _ c.read_array.ensures c.unwrap.ensures in
    c.same_part.ensures ∙ ap (λ x. same x (bytes_in c.args.self.coins.now (c.args.commitment, 32))) (own-part c.blind_bid-blinded.result h ∙ c.blind_bid-blinded.ensures ∙ ap (blind_of c.args.self.made.value.0) n)
