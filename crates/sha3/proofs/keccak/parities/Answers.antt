use Rattle.sha3.specs.Keccak.{plane}
use Rattle.sha3.proofs.keccak.parities.Goals as goal

pub returns : goal.returns
unfolding plane
returns c = rw (c.parity_of-5.ensures, c.parity_of-4.ensures, c.parity_of-3.ensures, c.parity_of-2.ensures, c.parity_of.ensures)
