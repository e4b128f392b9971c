use Prim.Native.Nat.{◌^◌, ◌<◌}
use Rattle.std.proofs.Math.Nat.{mod-eq_of_lt}
use Rattle.refusal.proofs.Outcomes.{told, raised}
use Rattle.encoding.specs.Paper.{read_paper}
use Rattle.encoding.proofs.Fixed.{fixed-under}
use Rattle.encoding.proofs.read.Cursor.read_le.Goals as goal

pub returns-in_err-v : goal.returns-in_err-v
returns-in_err-v g c = rw (raised c.from_residual.ensures, ← c.WIDTH.ensures, ← c.fixed.ensures, c.in_err-v.was)

pub returns : goal.returns
returns g c =
    let small : c.in_ok-v.v < 256 ^ g.T.Integer.WIDTH = rw (← c.WIDTH.ensures) (fixed-under _ _ _ (λ k. (c.type_inv.s k).fits) (told read_paper c.fixed.ensures c.in_ok-v.was)) in
    rw (← c.WIDTH.ensures, ← c.fixed.ensures, c.in_ok-v.was, c.from_u64.ensures, mod-eq_of_lt small)
