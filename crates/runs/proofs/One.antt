-- Two results that meet a contract coincide, for each public function.
use Rattle.std.proofs.Common.{◌≡◌, ℕ, List}
use Rattle.std.specs.Prelude.{Option, Result}
use Rattle.words.proofs.One.{one}
use Rattle.covenants.specs.declared.Accepted.{Accepted}
use Rattle.runs.specs.Run.{run_said}
use Rattle.runs.specs.Covenants.{default_allowance, covenant_run, covenant_step}
use Rattle.runs.specs.Paper.{run_step_paper, run_end_paper, run_start}
use Rattle.runs.proofs.Same.{step_same, run-end-same}
use Rattle.runs.specs.declared.Run.{Run}
use Rattle.runs.specs.declared.RunStop.{RunStop}

pub start-one : {r r' : Run} → r ≡ run_start → r' ≡ run_start → r ≡ r'
start-one = one

module _ (run : Run) (s : List ℕ) {r r' : Result (Option (Accepted × Run)) RunStop} where
  pub next_one : run_step_paper run.count r ≡ covenant_step default_allowance s run.cursor.position run.count
      → run_step_paper run.count r' ≡ covenant_step default_allowance s run.cursor.position run.count → r ≡ r'
  next_one e f = step_same run.count (one e f)

  pub next-with-limit-one : (limit : ℕ) → run_step_paper run.count r ≡ covenant_step limit s run.cursor.position run.count
      → run_step_paper run.count r' ≡ covenant_step limit s run.cursor.position run.count → r ≡ r'
  next-with-limit-one limit e f = step_same run.count (one e f)

module _ (s : List ℕ) {r r' : Result ℕ RunStop} where
  pub read-run-one : run_end_paper r ≡ run_said (covenant_run default_allowance s) → run_end_paper r' ≡ run_said (covenant_run default_allowance s) → r ≡ r'
  read-run-one e f = run-end-same (one e f)

  pub read-run-with-limit-one : (limit : ℕ) → run_end_paper r ≡ run_said (covenant_run limit s) → run_end_paper r' ≡ run_said (covenant_run limit s) → r ≡ r'
  read-run-with-limit-one limit e f = run-end-same (one e f)

  pub import-archive-one : run_end_paper r ≡ run_said (covenant_run default_allowance s) → run_end_paper r' ≡ run_said (covenant_run default_allowance s) → r ≡ r'
  import-archive-one e f = run-end-same (one e f)
