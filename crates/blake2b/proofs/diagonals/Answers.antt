use Rattle.std.proofs.Common.{◌≡◌, length, ap, ◌∙◌, rules}
use Rattle.blake2b.specs.Workers.{four, back}
use Rattle.blake2b.proofs.Rounds.{diags-law}
use Rattle.blake2b.proofs.diagonals.Goals as goal

pub returns : goal.returns
returns c =
    let a = c.args in
    let long : length a.v ≡ 16 = search rules in
    c.turn_back.ensures ∙ ap back (c.mix.ensures ∙ ap (four a.m.now a.s.now 8) c.turn.ensures) ∙ diags-law a.m.now a.s.now a.v long
