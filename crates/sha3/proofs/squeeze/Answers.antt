use mathlib.Core.Path.{sym, ◌∙◌}
use native.Mathlib.Omega.{arith}
use Rattle.sha3.proofs.Bits.{first-lanes}
use Rattle.sha3.proofs.squeeze.Goals as goal

pub returns : goal.returns
returns c = c.words_bytes.ensures ∙ sym (first-lanes c.args.s (omega arith))
