use borrow.Author.Rules.{rules}
use mathlib.Core.Path.{◌∙◌}
use Rattle.refusal.specs.Outcome.{past}
use Rattle.sheets.specs.Sheet.{coin_at}
use Rattle.sheets.proofs.Reading.{each-past}
use Rattle.sheets.proofs.pass_coins.Goals as goal

pub returns : goal.returns
returns c = c.pass_many.ensures (λ at. past (coin_at c.args.version c.args.s.now at)) (λ from next e. search rules) ∙ each-past _ _ _
