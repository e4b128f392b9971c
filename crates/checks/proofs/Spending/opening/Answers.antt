use mathlib.Core.Path.{sym, ◌∙◌}
use Rattle.words.proofs.Le.{part-long}
use Rattle.refusal.proofs.Outcomes.{raised}
use Rattle.checks.proofs.Judging.{absent, sized_there, sized-none, open-first, open-second, open-other, open-fine}
use Rattle.checks.proofs.Spending.opening.Goals as goal

pub returns-in_err-nonce : goal.returns-in_err-nonce
returns-in_err-nonce c =
    let n = absent c.made_item.result _ c.ok_or.ensures.value c.in_err-nonce.was in
    rw (raised c.from_residual.ensures, n.1, c.malformed.ensures) (open-first _ _ _ (sized-none _ _ _ _ c.made_item.ensures n.0))

pub returns-in_err-commitment : goal.returns-in_err-commitment
returns-in_err-commitment c =
    let x = sized_there _ _ _ _ c.made_item.ensures c.ok_or.ensures.ok_part c.in_ok-nonce.was in
    let n = absent c.spent_item.result _ c.ok_or-2.ensures.value c.in_err-commitment.was in
    rw (raised c.from_residual-in_err-commitment.ensures, n.1, c.malformed-2.ensures) (open-second _ _ _ x.1 (part-long _ _ _ x.0) (sized-none _ _ _ _ c.spent_item.ensures n.0))

pub returns-then-commits : goal.returns-then-commits
returns-then-commits c =
    let x = sized_there _ _ _ _ c.made_item.ensures c.ok_or.ensures.ok_part c.in_ok-nonce.was in
    let y = sized_there _ _ _ _ c.spent_item.ensures c.ok_or-2.ensures.ok_part c.in_ok-commitment.was in
    open-fine _ _ _ x.1 (part-long _ _ _ x.0) y.1 (part-long _ _ _ y.0) (sym c.commits.ensures ∙ c.if-commits.true)

pub returns-else-commits : goal.returns-else-commits
returns-else-commits c =
    let x = sized_there _ _ _ _ c.made_item.ensures c.ok_or.ensures.ok_part c.in_ok-nonce.was in
    let y = sized_there _ _ _ _ c.spent_item.ensures c.ok_or-2.ensures.ok_part c.in_ok-commitment.was in
    open-other _ _ _ x.1 (part-long _ _ _ x.0) y.1 (part-long _ _ _ y.0) (sym c.commits.ensures ∙ c.if-commits.false)
