use native.Mathlib.Omega.{arith}
use Rattle.name_state.proofs.Text.{text-long}
use Rattle.texts.specs.Text.{decimal, newline}
use Rattle.reports.specs.Name.{class_name, state_text, name_text, bytes_text}
use Rattle.texts.proofs.Puts.{and_then}
use Rattle.reports.proofs.Line.{begin-long, state-long, line-put}
use Rattle.reports.proofs.name.put_state.Goals as goal

pub returns : goal.returns
returns c =
    let a = c.args in
    let n = text-long a.state.name_length a.state.name in
    let class = c.class.result in
    let long = state-long class a.state.name_length a.size in
    let known = and_then a.d.now 0 state_text (class_name class) (c.put_text-a.ensures.value, c.put_text-a.ensures.d_after) (c.put_class-b.ensures.value, c.put_class-b.ensures.d_after) (omega (arith, begin-long class)) in
    let made = line-put state_text (class_name class) name_text (decimal a.state.name_length) bytes_text (decimal a.size) newline a.d.now (omega (arith, long)) known (c.put_field-c.ensures.value, c.put_field-c.ensures.d_after) (c.put_field-e.ensures.value, c.put_field-e.ensures.d_after) (c.put_text.ensures.value, c.put_text.ensures.d_after) in
    record { value = rw (n, ← c.class.ensures) made.0; d_after = rw (n, ← c.class.ensures) made.1 }
