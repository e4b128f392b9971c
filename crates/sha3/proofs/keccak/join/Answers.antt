use borrow.Author.Rules.{rules}
use Rattle.sha3.proofs.Planes.{told}
use Rattle.sha3.proofs.keccak.join.Goals as goal

pub returns : goal.returns
returns c =
    let a = c.args in
    told a.p0 a.p1 a.p2 a.p3 a.p4 (search rules) (search rules) (search rules) (search rules) (search rules)
