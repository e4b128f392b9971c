use mathlib.Core.Path.{◌≡◌}
use Prim.Native.Nat.{ℕ}
use Rattle.sheets.specs.Sheet.{items_from}
use Rattle.checks.specs.Checks.{name_and_start}
use Rattle.checks.specs.Items.{items_at}
use Rattle.checks.specs.Workers.{Left}
use Rattle.checks.proofs.Spending.name_and_start.Given as goal

abbrev pub invariant-loop-k : goal.invariant-loop-k
invariant-loop-k l =
    (x y : ℕ) → l.spent ≡ items_at l.self.coins.now x → l.made ≡ items_at l.self.tx.now y
    → Left l.self.input (items_from l.self.coins.now x) (items_from l.self.tx.now y) l.k ≡ name_and_start l.self.input (items_from l.self.coins.now x) (items_from l.self.tx.now y)
