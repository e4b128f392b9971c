-- The transaction sheet's judgement, in the line of both sheets.
use mathlib.Core.Path.{◌≡◌, refl}
use Prim.Native.Nat.{ℕ}
use mathlib.Core.List.{List}
use Rattle.refusal.specs.Outcome.{Outcome, ok, err}
use Rattle.sheets.specs.Sheet.{Judged, whole, refused, Transaction, Coin, judged, transaction_at, transaction_of, transaction_counts, coins_of, both, pair_of}
use Rattle.links.specs.Verify.{Answer, judged_then, verify_of}
use Rattle.reports.specs.Link.{answer_line, judged_line}

-- whatever is told of a sheet that is not refused
judged-line : {A B C : Type 0} (side : ℕ) (f : A → B) (g : A → C) (o : Outcome A) (next : List ℕ) → judged_line (judged side f o) next ≡ judged_line (judged side g o) next
judged-line side f g (ok a end) next = refl
judged-line side f g (err k vs p) next = refl

pub counts-line : (tx next : List ℕ) → judged_line (transaction_of tx) next ≡ judged_line (transaction_counts tx) next
unfolding transaction_of transaction_counts
counts-line tx next = judged-line 0 _ _ (transaction_at tx) next

-- the verifier refuses what the sheet is refused for
then-line : (j : Judged Transaction) (c : Judged (List Coin)) (f : Transaction × List Coin → Answer) → judged_line j (answer_line (judged_then (both j c) f)) ≡ answer_line (judged_then (both j c) f)
then-line (whole t) c f = refl
then-line (refused k vs side) c f = refl

pub answer-line : (tx coins : List ℕ) → judged_line (transaction_of tx) (answer_line (verify_of tx coins)) ≡ answer_line (verify_of tx coins)
unfolding verify_of pair_of
answer-line tx coins = then-line (transaction_of tx) (coins_of coins) _
