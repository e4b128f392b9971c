use native.Mathlib.Omega.{arith}
use Prim.Native.Nat.{◌^◌, ◌<◌}
use mathlib.Core.Path.{refl}
use borrow.Author.Tests.{le-ltb}
use Rattle.std.proofs.Math.Nat.{mod-eq_of_lt}
use Rattle.encoding.specs.Paper.{read_paper}
use Rattle.refusal.proofs.Outcomes.{told}
use Rattle.name_state_codec.specs.Read.{up_to}
use Rattle.name_state_codec.proofs.read.read_compact.Goals as goal

pub returns : goal.returns
unfolding up_to
returns g c =
    let small : c.in_ok-v.v < 256 ^ g.T.Integer.WIDTH = omega (arith, c.requires) in
    rw (c.from_u64.ensures, mod-eq_of_lt small, told read_paper c.read_compact_size.ensures c.in_ok-v.was, le-ltb _ _ c.if-maximum-v.false) refl
