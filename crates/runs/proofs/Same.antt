-- Two answers that say the same in the document's numbers are the same answer: each answer's paper is injective.
use Rattle.std.proofs.Common.{◌≡◌, ℕ, refl, ap}
use Rattle.std.specs.Prelude.{Option, Some, None, Result, Ok, Err}
use Rattle.refusal.proofs.Same.{one-to-one, stop, stop-back}
use Rattle.encoding.proofs.Same.{cursor}
use Rattle.covenants.specs.Covenant.{Skimmed}
use Rattle.covenants.specs.declared.Accepted.{Accepted}
use Rattle.runs.specs.Run.{End, ended, stopped, Advance, handed, last}
use Rattle.runs.specs.Paper.{run_step_paper, run_end_paper}
use Rattle.runs.specs.declared.Run.{Run}
use Rattle.runs.specs.declared.RunStop.{RunStop}

step_back : Advance Skimmed × ℕ → Result (Option (Accepted × Run)) RunStop
step_back t = go t.0
  where
    go : Advance Skimmed → Result (Option (Accepted × Run)) RunStop
    go (handed said next) = Ok (Some (record { kind = said.0; count = said.1; used = said.2 }, record { cursor = cursor next; count = t.1 }))
    go (last ended) = Ok None
    go (last (stopped k vs p)) = Err (record { stop = stop k vs p; count = t.1 })

pub step_same : (count : ℕ) {r r' : Result (Option (Accepted × Run)) RunStop} → run_step_paper count r ≡ run_step_paper count r' → r ≡ r'
unfolding step_back
step_same count = one-to-one (run_step_paper count) step_back go
  where
    go : (r : Result (Option (Accepted × Run)) RunStop) → step_back (run_step_paper count r) ≡ r
    go (Ok (Some r)) = refl
    go (Ok None) = refl
    go (Err s) = ap (λ x. Err (record { stop = x; count = s.count })) (stop-back s.stop)

run-end-back : End × ℕ → Result ℕ RunStop
run-end-back t = go t.0
  where
    go : End → Result ℕ RunStop
    go ended = Ok t.1
    go (stopped k vs p) = Err (record { stop = stop k vs p; count = t.1 })

pub run-end-same : {r r' : Result ℕ RunStop} → run_end_paper r ≡ run_end_paper r' → r ≡ r'
unfolding run-end-back
run-end-same = one-to-one run_end_paper run-end-back (elim [ Ok n ↦ refl | Err s ↦ ap (λ x. Err (record { stop = x; count = s.count })) (stop-back s.stop) ])
