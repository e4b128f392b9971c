use native.Mathlib.Omega.{arith}
use mathlib.Core.Path.{ap, sym, subst, ◌∙◌}
use Rattle.sheets.specs.Viewer.{View}
use Rattle.sheets.specs.Paper.{in_sheet}
use Rattle.sheets.specs.declared.viewer.Sheet.{Sheet}
use Rattle.sheets.proofs.Viewing.{Inside, view-inside}
use Rattle.sheets.proofs.viewer.item.Goals as goal

pub cut-requires : goal.cut-requires
cut-requires c =
    let a = c.args in
    let found = sym c.in-Some.ensures ∙ ap (λ (on : Sheet). in_sheet on c.in-Some.view.part.start c.in-Some.view.part.len) c.in-Transaction.is in
    subst (λ (v : View). Inside a.tx.now a.coins.now v) found (view-inside _ _ _ _ _ (omega arith) (omega arith))

pub cut-requires-in-Coins : goal.cut-requires-in-Coins
cut-requires-in-Coins c =
    let a = c.args in
    let found = sym c.in-Some.ensures ∙ ap (λ (on : Sheet). in_sheet on c.in-Some.view.part.start c.in-Some.view.part.len) c.in-Coins.is in
    subst (λ (v : View). Inside a.tx.now a.coins.now v) found (view-inside _ _ _ _ _ (omega arith) (omega arith))
