use Rattle.sha3.specs.Keccak.{lane, plane, state, parity, theta}
use Rattle.sha3.proofs.keccak.theta.Goals as goal

pub returns : goal.returns
unfolding lane plane state parity theta
returns c =
    rw (c.join.ensures, c.theta_plane-5.ensures, c.plane_of-5.ensures, c.theta_plane-4.ensures, c.plane_of-4.ensures, c.theta_plane-3.ensures, c.plane_of-3.ensures, c.theta_plane-2.ensures, c.plane_of-2.ensures, c.theta_plane.ensures, c.plane_of.ensures, c.added-d.ensures, c.parities.ensures)
