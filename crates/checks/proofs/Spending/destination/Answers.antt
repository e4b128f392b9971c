use mathlib.Core.Path.{sym, ◌∙◌}
use Rattle.words.proofs.Le.{part-long}
use Rattle.refusal.proofs.Outcomes.{told, raised}
use Rattle.covenants.specs.Paper.{spot_paper}
use Rattle.covenants.proofs.Parts.{first_byte}
use Rattle.sheets.proofs.Items.{item-there, item-counted, item-few}
use Rattle.checks.proofs.Judging.{present, absent, sized_there, sized-none, destined-other, destined-absent, destined-there}
use Rattle.checks.proofs.Spending.destination.Goals as goal

pub returns-in_err-version : goal.returns-in_err-version
returns-in_err-version c =
    let n = absent c.spent_item.result _ c.ok_or.ensures.value c.in_err-version.was in
    rw (raised c.from_residual.ensures, n.1, c.malformed.ensures) (destined-other _ _ _ (sized-none _ _ _ _ c.spent_item.ensures n.0))

pub returns-in_err-hash : goal.returns-in_err-hash
returns-in_err-hash c =
    let x = sized_there _ _ _ _ c.spent_item.ensures c.ok_or.ensures.ok_part c.in_ok-version.was in
    let n = absent c.find.result _ c.ok_or-2.ensures.value c.in_err-hash.was in
    rw (raised c.from_residual-in_err-hash.ensures, n.1, c.malformed-2.ensures) (destined-absent _ _ _ x.1 (part-long _ _ _ x.0) (item-few _ _ _ (told spot_paper c.find.ensures n.0)))

pub returns-then-same_address : goal.returns-then-same_address
returns-then-same_address c =
    let x = sized_there _ _ _ _ c.spent_item.ensures c.ok_or.ensures.ok_part c.in_ok-version.was in
    let e = told spot_paper c.find.ensures (present c.ok_or-2.ensures.ok_part c.in_ok-hash.was) in
    destined-there _ _ _ x.1 (part-long _ _ _ x.0) (first_byte _ _ x.0) (item-counted _ _ _ e) (item-there _ _ _ e) (sym c.same_address.ensures ∙ c.if-same_address.true)

pub returns-else-same_address : goal.returns-else-same_address
returns-else-same_address c =
    let x = sized_there _ _ _ _ c.spent_item.ensures c.ok_or.ensures.ok_part c.in_ok-version.was in
    let e = told spot_paper c.find.ensures (present c.ok_or-2.ensures.ok_part c.in_ok-hash.was) in
    destined-there _ _ _ x.1 (part-long _ _ _ x.0) (first_byte _ _ x.0) (item-counted _ _ _ e) (item-there _ _ _ e) (sym c.same_address.ensures ∙ c.if-same_address.false)
