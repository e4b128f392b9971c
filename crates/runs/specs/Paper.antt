-- What each answer says, in the document's numbers.
use Rattle.std.specs.Prelude.{ℕ, Option, Some, None, Result, Ok, Err}
use Rattle.refusal.specs.Paper.{number_of, carried, standing}
use Rattle.refusal.specs.declared.Stop.{Stop}
use Rattle.covenants.specs.Covenant.{Skimmed}
use Rattle.covenants.specs.declared.Accepted.{Accepted}
use Rattle.runs.specs.Run.{End, ended, stopped, Advance, handed, last}
use Rattle.runs.specs.declared.Run.{Run}
use Rattle.runs.specs.declared.RunStop.{RunStop}

-- a run that a refusal ended
abbrev pub ended_by : Stop → End
ended_by s = stopped (number_of s.refusal) (carried s.refusal) (standing s)

-- what a step of a run says that had so many covenants, and how many there are after it
abbrev pub run_step_paper : ℕ → Result (Option (Accepted × Run)) RunStop → Advance Skimmed × ℕ
run_step_paper count (Ok (Some r)) = (handed (r.0.kind, r.0.count, r.0.used) r.1.cursor.position, r.1.count)
run_step_paper count (Ok None) = (last ended, count)
run_step_paper count (Err s) = (last (ended_by s.stop), s.count)

-- how a run ended, and how many covenants it had
abbrev pub run_end_paper : Result ℕ RunStop → End × ℕ
run_end_paper (Ok count) = (ended, count)
run_end_paper (Err s) = (ended_by s.stop, s.count)

-- a run before its first covenant
abbrev pub run_start : Run
run_start = record { cursor = record { position = 0 }; count = 0 }
