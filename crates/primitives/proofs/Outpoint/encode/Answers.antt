use borrow.Author.Rules.{rules}
use native.Mathlib.Omega.{arith}
use mathlib.Core.Path.{ap, ◌∙◌}
use Rattle.words.specs.Words.{bytes}
use Rattle.words.specs.Buffers.{laid}
use Rattle.words.proofs.Le.{length-bytes}
use Rattle.words.proofs.Over.{laid-two}
use Rattle.primitives.specs.Outpoints.{outpoint_bytes}
use Rattle.primitives.proofs.Outpoint.encode.Goals as goal

pub returns : goal.returns
unfolding outpoint_bytes
returns c = c.put_le.ensures.1 ∙ ap (λ v. laid 32 (bytes 4 v) c.put_bytes.new.d) c.from.ensures ∙ ap (laid 32 (bytes 4 c.args.self.index)) c.put_bytes.ensures.1 ∙ laid-two _ _ _ (search rules) (omega (arith, length-bytes 4 c.args.self.index))
