use Rattle.std.proofs.Common.{◌+◌, arith}
use Rattle.sha3.specs.Keccak.{parity}
use Rattle.sha3.proofs.Planes.{lane-is}
use Rattle.sha3.proofs.keccak.parity_of.Goals as goal

pub returns : goal.returns
unfolding parity
returns c =
    let a = c.args.a in
    let x = c.args.x in
    rw (lane-is a x 0 x c.requires (omega arith) (omega arith), lane-is a x 1 (x + 5) c.requires (omega arith) (omega arith), lane-is a x 2 (x + 10) c.requires (omega arith) (omega arith), lane-is a x 3 (x + 15) c.requires (omega arith) (omega arith), lane-is a x 4 (x + 20) c.requires (omega arith) (omega arith))
