use native.Mathlib.Omega.{arith}
use mathlib.Core.Path.{sym}
use Rattle.encoding.specs.Paper.{read_paper}
use Rattle.refusal.proofs.Outcomes.{told}
use Rattle.covenants.specs.Items.{of_width}
use Rattle.covenants.proofs.Places.{of-width-other, of-width-read, of-width-none, ok_kept, err-kept}
use Rattle.covenants.proofs.items.as_name_hash.Goals as goal

pub returns-in_err-part : goal.returns-in_err-part
unfolding of_width
returns-in_err-part c = rw (c.from_residual.ensures, c.in_err-part.was)

pub returns-then-part-ne32 : goal.returns-then-part-ne32
returns-then-part-ne32 c = rw c.in_ok-part.was (sym (of-width-other _ _ _ _ (omega arith)))

pub returns-in_err-hash : goal.returns-in_err-hash
returns-in_err-hash c =
    let e = err-kept c.ok.ensures.value c.in_err-hash.was in
    rw (c.from_residual-in_err-hash.ensures, c.in_ok-part.was) (sym (of-width-none _ _ _ _ (omega arith) (omega arith) (told read_paper c.read_array.ensures e.1)))

pub returns : goal.returns
returns c =
    let e = ok_kept c.ok.ensures.value c.in_ok-hash.was in
    rw c.in_ok-part.was (sym (of-width-read _ _ _ _ (omega arith) (omega arith) (told read_paper c.read_array.ensures e)))
