use Rattle.std.proofs.Common.{◌+◌, ◌*◌, arith}
use Rattle.sha3.specs.Keccak.{plane}
use Rattle.sha3.proofs.Planes.{lane-is}
use Rattle.sha3.proofs.keccak.plane_of.Goals as goal

pub returns : goal.returns
unfolding plane
returns c =
    let a = c.args.a in
    let y = c.args.y in
    rw (lane-is a 0 y (5 * y) (omega arith) c.requires (omega arith), lane-is a 1 y (5 * y + 1) (omega arith) c.requires (omega arith), lane-is a 2 y (5 * y + 2) (omega arith) c.requires (omega arith), lane-is a 3 y (5 * y + 3) (omega arith) c.requires (omega arith), lane-is a 4 y (5 * y + 4) (omega arith) c.requires (omega arith))
