use lib.Bits.{xor_zero_r}
use Rattle.sha3.specs.Keccak.{lane, plane, state, chi, constant_added}
use Rattle.sha3.proofs.keccak.chi_iota.Goals as goal

pub returns : goal.returns
unfolding lane plane state chi constant_added
returns c =
    rw (c.join.ensures, c.chi_plane-5.ensures, c.plane_of-5.ensures, c.chi_plane-4.ensures, c.plane_of-4.ensures, c.chi_plane-3.ensures, c.plane_of-3.ensures, c.chi_plane-2.ensures, c.plane_of-2.ensures, c.chi_plane.ensures, c.plane_of.ensures)
    (simp xor_zero_r)
