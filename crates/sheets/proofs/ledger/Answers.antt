use borrow.Author.Rules.{rules}
use mathlib.Core.Path.{sym, ◌∙◌}
use Rattle.refusal.proofs.Outcomes.{told, raised}
use Rattle.refusal.specs.Outcome.{past}
use Rattle.encoding.specs.Paper.{moved_paper}
use Rattle.sheets.specs.Sheet.{input_at, place_at}
use Rattle.sheets.proofs.Reading.{each-past}
use Rattle.sheets.proofs.Whole.{ledger-next, ledger-cut}
use Rattle.sheets.proofs.ledger.Goals as goal

pub returns-in_err-first_output : goal.returns-in_err-first_output
returns-in_err-first_output c =
    let inputs = c.pass_many.ensures (λ at. past (input_at c.args.s.now at)) (λ from next e. search rules) ∙ each-past _ _ _ in
    rw (raised c.from_residual.ensures) (sym (ledger-cut _ _ _ (told moved_paper inputs c.in_err-first_output.was)))

pub returns : goal.returns
returns c =
    let inputs = c.pass_many.ensures (λ at. past (input_at c.args.s.now at)) (λ from next e. search rules) ∙ each-past _ _ _ in
    let outputs = c.pass_many-2.ensures (λ at. past (place_at 0 c.args.s.now at)) (λ from next e. search rules) ∙ each-past _ _ _ in
    outputs ∙ sym (ledger-next _ _ _ (told moved_paper inputs c.in_ok-first_output.was))
