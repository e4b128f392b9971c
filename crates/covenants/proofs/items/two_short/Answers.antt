use native.Mathlib.Omega.{arith}
use mathlib.Core.Path.{refl}
use Rattle.covenants.proofs.OneByte.{two-short, short-two}
use Rattle.covenants.proofs.items.two_short.Goals as goal

pub returns-then-second-length : goal.returns-then-second-length
returns-then-second-length c =
    let h = two-short c.args.s.now c.args.at refl (omega arith) (omega arith) c.from.ensures (omega arith) refl c.from-2.ensures (omega arith) (omega arith) in
    rw c.from-2.ensures (short-two c.args.s.now c.args.at (omega arith) h c.from.ensures refl)
