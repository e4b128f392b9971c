use Rattle.std.proofs.Common.{◌≤◌, length}
use Rattle.samples.proofs.run.Given as goal

abbrev pub invariant-loop-number : goal.invariant-loop-number
invariant-loop-number g l = record {
  in_range : l.at ≤ length l.s;
  no_more : l.differ ≤ l.number;
}
