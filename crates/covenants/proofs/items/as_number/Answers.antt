use native.Mathlib.Omega.{arith}
use mathlib.Core.Path.{sym, ◌∙◌}
use Rattle.encoding.specs.Paper.{read_as}
use Rattle.refusal.proofs.Outcomes.{told}
use Rattle.covenants.specs.Items.{of_width, number_in}
use Rattle.covenants.proofs.Places.{number-other, number-read, number-none, ok_kept, err-kept}
use Rattle.covenants.proofs.items.as_number.Goals as goal

pub returns-in_err-part : goal.returns-in_err-part
unfolding number_in of_width
returns-in_err-part g c = rw (c.from_residual.ensures, c.in_err-part.was)

pub returns-then-part-WIDTH : goal.returns-then-part-WIDTH
returns-then-part-WIDTH g c = rw c.in_ok-part.was (sym (number-other _ _ _ _ (rw c.WIDTH.ensures at c.if-part-WIDTH.true)))

pub returns-in_err-value : goal.returns-in_err-value
returns-in_err-value g c =
    let e = err-kept c.ok.ensures.value c.in_err-value.was in
    rw (c.from_residual-in_err-value.ensures, c.in_ok-part.was) (number-none _ _ _ _ (c.if-part-WIDTH.false ∙ c.WIDTH.ensures) (omega arith) (told (read_as g.T.Integer.number) c.read_le.ensures e.1))

pub returns : goal.returns
returns g c =
    let e = ok_kept c.ok.ensures.value c.in_ok-value.was in
    rw c.in_ok-part.was (number-read _ _ _ _ (c.if-part-WIDTH.false ∙ c.WIDTH.ensures) (omega arith) (told (read_as g.T.Integer.number) c.read_le.ensures e))
