use native.Mathlib.Omega.{arith}
use Rattle.reports.proofs.Line.{field-ends, stopped-put}
use Rattle.reports.proofs.link.put_numbered.Goals as goal

pub put_index-b-requires : goal.put_index-b-requires
put_index-b-requires c =
    omega (arith, field-ends c.args.d.now c.args.number (omega arith), c.put_field-a.ensures.value, c.put_field-a.auto.d)

pub returns : goal.returns
returns c =
    let made = stopped-put c.args.d.now c.args.number c.args.index (omega arith) (c.put_field-a.ensures.value, c.put_field-a.ensures.d_after) (c.put_index-b.ensures.value, c.put_index-b.ensures.d_after) (c.put_text.ensures.value, c.put_text.ensures.d_after) in
    record { value = made.0; d_after = made.1 }
