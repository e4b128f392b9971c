use mathlib.Core.Path.{◌≡◌}
use Prim.Native.Nat.{ℕ}
use Rattle.std.specs.Prelude.{Result}
use Rattle.refusal.specs.Outcome.{Outcome}
use Rattle.refusal.specs.declared.Stop.{Stop}
use Rattle.refusal.proofs.Many.{Passing}
use Rattle.encoding.specs.Paper.{moved_paper}
use Rattle.encoding.specs.declared.read.Cursor.{Cursor}
use Rattle.sheets.proofs.pass_many.Given as goal

abbrev pub invariant-loop : goal.invariant-loop
invariant-loop g l =
    (ends : ℕ → Outcome Unit) → ((c : Cursor) (next : Result Cursor Stop) → goal.F-post g l.fn.pass c next → moved_paper next ≡ ends c.position)
    → Passing ends l.n l.fn.from.position l.c.position l.counter
