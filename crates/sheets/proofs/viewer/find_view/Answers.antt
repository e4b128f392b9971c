use native.Mathlib.Omega.{arith}
use mathlib.Core.Path.{ap, sym, ◌∙◌}
use borrow.Author.Tests.{ne_eqb}
use Rattle.refusal.proofs.Outcomes.{told}
use Rattle.covenants.proofs.Places.{ok_kept, err-kept}
use Rattle.sheets.specs.Paper.{pair_paper}
use Rattle.sheets.specs.Viewer.{viewed, in_transaction, in_coins}
use Rattle.sheets.proofs.Whole.{pair-whole}
use Rattle.sheets.proofs.Viewing.{view-chosen, view-no-pair}
use Rattle.sheets.proofs.viewer.find_view.Goals as goal

pub returns-in_err-counts : goal.returns-in_err-counts
returns-in_err-counts c =
    let e = err-kept c.ok.ensures.value c.in_err-counts.was in
    rw c.from_residual.ensures (sym (view-no-pair _ _ _ _ _ (told pair_paper c.judge_pair.ensures e.1)))

pub output_item-spot-requires : goal.output_item-spot-requires
output_item-spot-requires c = (pair-whole _ _ (told pair_paper c.judge_pair.ensures (ok_kept c.ok.ensures.value c.in_ok-counts.was))).0

pub coin_item-spot-requires : goal.coin_item-spot-requires
coin_item-spot-requires c = (pair-whole _ _ (told pair_paper c.judge_pair.ensures (ok_kept c.ok.ensures.value c.in_ok-counts.was))).1

pub returns-in-0 : goal.returns-in-0
returns-in-0 c =
    rw (view-chosen _ _ _ _ _ (told pair_paper c.judge_pair.ensures (ok_kept c.ok.ensures.value c.in_ok-counts.was)), c.in-0.is)
    (c.on_sheet.ensures ∙ ap (viewed in_transaction) c.output_item-spot.ensures)

pub returns-in-1 : goal.returns-in-1
returns-in-1 c =
    rw (view-chosen _ _ _ _ _ (told pair_paper c.judge_pair.ensures (ok_kept c.ok.ensures.value c.in_ok-counts.was)), c.in-1.is)
    (c.on_sheet-in-1.ensures ∙ ap (viewed in_coins) c.coin_item-spot.ensures)

pub returns-in_default : goal.returns-in_default
returns-in_default c =
    rw (view-chosen _ _ _ _ _ (told pair_paper c.judge_pair.ensures (ok_kept c.ok.ensures.value c.in_ok-counts.was)), ne_eqb c.args.side 0 (omega arith), ne_eqb c.args.side 1 (omega arith))
