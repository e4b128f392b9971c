use native.Mathlib.Omega.{arith}
use mathlib.Core.Path.{sym, ◌∙◌}
use lib.ListN.{length}
use Rattle.texts.proofs.Puts.{end-within, end-past, stored, not-stored}
use Rattle.texts.proofs.put_text.Goals as goal

pub overflow_add-result : goal.overflow_add-result
overflow_add-result c =
    let a = c.args in
    let fit = stored a.at a.s.now a.d.now (sym c.put_bytes.ensures.0 ∙ c.if-put_bytes.true) in
    omega arith

pub returns-then-put_bytes : goal.returns-then-put_bytes
returns-then-put_bytes c = record { value = sym (end-within _ _ _ (stored _ _ _ (sym c.put_bytes.ensures.0 ∙ c.if-put_bytes.true))); d_after = c.put_bytes.ensures.1 }

pub returns-else-put_bytes-clause-value : goal.returns-else-put_bytes-clause-value
returns-else-put_bytes-clause-value c =
    let a = c.args in
    omega (arith, end-past a.at a.s.now (length a.d.now) (not-stored _ _ _ (sym c.put_bytes.ensures.0 ∙ c.if-put_bytes.false)), c.put_bytes.auto.d)
