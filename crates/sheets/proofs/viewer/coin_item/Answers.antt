use native.Mathlib.Omega.{arith}
use mathlib.Core.Path.{ap, ◌∙◌}
use Rattle.refusal.specs.Outcome.{then}
use Rattle.refusal.proofs.Outcomes.{told}
use Rattle.encoding.specs.Paper.{moved_paper}
use Rattle.covenants.proofs.Places.{ok_kept, err-kept}
use Rattle.sheets.specs.Workers.{coin_output, coin_start}
use Rattle.sheets.proofs.Viewing.{coin-none, coin-there}
use Rattle.sheets.proofs.viewer.coin_item.Goals as goal

pub returns-then-count-record : goal.returns-then-count-record
returns-then-count-record c = coin-none _ (omega arith) c.requires _ _ c.if-count-record.true

pub returns-in_err-coin : goal.returns-in_err-coin
unfolding coin_start
returns-in_err-coin c =
    let e = err-kept c.ok.ensures.value c.in_err-coin.was in
    let walked = ap (λ o. then o (λ nothing next. coin_output 1 c.args.coins.now next)) (told moved_paper c.pass_coins.ensures e.1) in
    rw c.from_residual.ensures (coin-there _ (omega arith) c.requires _ _ c.if-count-record.false walked)

pub returns-in_err-output : goal.returns-in_err-output
unfolding coin_start
returns-in_err-output c =
    let e = err-kept c.ok-2.ensures.value c.in_err-output.was in
    let coin = ok_kept c.ok.ensures.value c.in_ok-coin.was in
    let walked = ap (λ o. then o (λ nothing next. coin_output 1 c.args.coins.now next)) (told moved_paper c.pass_coins.ensures coin) in
    rw c.from_residual-in_err-output.ensures (coin-there _ (omega arith) c.requires _ _ c.if-count-record.false (walked ∙ told moved_paper c.pass_to_output.ensures e.1))

pub returns : goal.returns
unfolding coin_start
returns c =
    let coin = ok_kept c.ok.ensures.value c.in_ok-coin.was in
    let output = ok_kept c.ok-2.ensures.value c.in_ok-output.was in
    let walked = ap (λ o. then o (λ nothing next. coin_output 1 c.args.coins.now next)) (told moved_paper c.pass_coins.ensures coin) in
    c.item_of.ensures ∙ coin-there _ (omega arith) c.requires _ _ c.if-count-record.false (walked ∙ told moved_paper c.pass_to_output.ensures output)
