use native.Mathlib.Omega.{arith}
use Rattle.texts.specs.Text.{decimal, newline}
use Rattle.reports.specs.Link.{inputs_text, linked_text, names_text}
use Rattle.reports.proofs.Line.{summary-long, line-put}
use Rattle.reports.proofs.link.put_summary.Goals as goal

pub returns : goal.returns
returns c =
    let s = c.args.s in
    let long = summary-long s.inputs_checked s.linked_outputs s.name_inputs in
    let made = line-put inputs_text (decimal s.inputs_checked) linked_text (decimal s.linked_outputs) names_text (decimal s.name_inputs) newline c.args.d.now (omega (arith, long)) (c.put_field-a.ensures.value, c.put_field-a.ensures.d_after) (c.put_field-b.ensures.value, c.put_field-b.ensures.d_after) (c.put_field-c.ensures.value, c.put_field-c.ensures.d_after) (c.put_text.ensures.value, c.put_text.ensures.d_after) in
    record { value = made.0; d_after = made.1 }
