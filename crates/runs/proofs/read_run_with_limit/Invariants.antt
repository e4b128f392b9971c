use Rattle.std.proofs.Common.{◌-◌, length}
use Rattle.runs.proofs.Running.{Running}
use Rattle.runs.proofs.Covenants.{Skim}
use Rattle.runs.proofs.read_run_with_limit.Given as goal

abbrev pub invariant-loop-after : goal.invariant-loop-after
invariant-loop-after l = Running (Skim l.limit l.s) l.s l.run.cursor.position l.run.count

abbrev pub decreases-loop-after : goal.decreases-loop-after
decreases-loop-after l = length l.s - l.run.cursor.position
