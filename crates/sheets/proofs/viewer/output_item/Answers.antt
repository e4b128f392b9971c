use native.Mathlib.Omega.{arith}
use mathlib.Core.Path.{◌∙◌}
use Rattle.refusal.proofs.Outcomes.{told}
use Rattle.encoding.specs.Paper.{moved_paper}
use Rattle.covenants.proofs.Places.{ok_kept, err-kept}
use Rattle.sheets.proofs.Viewing.{output-none, output-there}
use Rattle.sheets.proofs.viewer.output_item.Goals as goal

pub returns-then-outputs-record : goal.returns-then-outputs-record
returns-then-outputs-record c = output-none _ (omega arith) c.requires _ _ c.if-outputs-record.true

pub returns-in_err-output : goal.returns-in_err-output
returns-in_err-output c =
    let e = err-kept c.ok.ensures.value c.in_err-output.was in
    rw c.from_residual.ensures (output-there _ (omega arith) c.requires _ _ c.if-outputs-record.false (told moved_paper c.ledger.ensures e.1))

pub returns : goal.returns
returns c = c.item_of.ensures ∙ output-there _ (omega arith) c.requires _ _ c.if-outputs-record.false (told moved_paper c.ledger.ensures (ok_kept c.ok.ensures.value c.in_ok-output.was))
