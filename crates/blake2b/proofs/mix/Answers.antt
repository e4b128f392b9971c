use Rattle.std.proofs.Common.{◌≡◌, length, ◌∙◌, rules}
use Rattle.blake2b.proofs.Rounds.{eight, four-law}
use Rattle.blake2b.proofs.mix.Goals as goal

pub returns : goal.returns
returns c =
    let a = c.args in
    let long : length a.v ≡ 16 = search rules in
    c.join.ensures
    ∙ four-law a.m.now a.s.now a.at a.v long
    (eight c.column_of.ensures c.pick.ensures c.half-p0.ensures c.pick-5.ensures c.half-q0.ensures)
    (eight c.column_of-2.ensures c.pick-2.ensures c.half-p1.ensures c.pick-6.ensures c.half-q1.ensures)
    (eight c.column_of-3.ensures c.pick-3.ensures c.half-p2.ensures c.pick-7.ensures c.half-q2.ensures)
    (eight c.column_of-4.ensures c.pick-4.ensures c.half-p3.ensures c.pick-8.ensures c.half-q3.ensures)
