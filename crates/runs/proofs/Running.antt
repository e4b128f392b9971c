-- A run read step by step, of whatever the run is.
use Rattle.std.proofs.Common.{◌≡◌, ℕ, zero, suc, ◌+◌, ◌-◌, ◌%◌, ◌^◌, ◌<◌, ◌≤◌, List, [], ◌∷◌, length, sym, ap, ◌∙◌, ap₂, arith}
use Rattle.refusal.specs.Outcome.{Outcome, ok}
use Rattle.runs.specs.Run.{End, Run, run_said, run_at, run_of, Advance, handed, last, count_after, step_at, step_of}
use Rattle.runs.proofs.Steps.{run-last, run_more}

-- what is read takes a byte at least, and stays within
abbrev pub Moving : {A : Type 0} → (ℕ → Outcome A) → List ℕ → Type 0
Moving {A} read s = (at : ℕ) (a : A) (next : ℕ) → read at ≡ ok a next → (at < next) × (next ≤ length s)

-- after so many things: what is left of the run gives the whole
pub record Running {A : Type 0} (read : ℕ → Outcome A) (s : List ℕ) (at count : ℕ) : Type 0 where
  pub behind : count ≤ at
  pub within : at ≤ length s
  pub ends : (run_at read (suc (length s) - count) s at).end ≡ (run_of read s).end
  pub counts : count + length (run_at read (suc (length s) - count) s at).read ≡ length (run_of read s).read

module _ {A : Type 0} (read : ℕ → Outcome A) (s : List ℕ) where
  pub begin : Running read s 0 0
  unfolding run_of
  begin =
      let z : suc (length s) - 0 ≡ suc (length s) = omega arith in
      record { behind = omega arith; within = omega arith; ends = rw z; counts = rw z (omega arith) }

  module _ {at count : ℕ} (r : Running read s at count) where
    fuel : suc (length s) - count ≡ suc (length s - count)
    fuel = omega (arith, r.behind, r.within)

    pub finish : {e : End} {count' : ℕ} → step_of read s at count ≡ (last e, count') → (e, count') ≡ run_said (run_of read s)
    finish {e} {count'} both =
        let h : step_at read s at ≡ last e = ap (λ (x : Advance A × ℕ). x.0) both in
        let c : count_after (step_at read s at) count ≡ count' = ap (λ (x : Advance A × ℕ). x.1) both in
        let run : run_at read (suc (length s) - count) s at ≡ record { read = []; end = e } = rw fuel (run-last read (length s - count) s at h) in
        let same : count ≡ count' = (rw h at c) in
        let a : e ≡ (run_of read s).end = sym (ap (λ (x : Run A). x.end) run) ∙ r.ends in
        let b : count' ≡ length (run_of read s).read = omega (arith, r.counts, ap (λ (x : Run A). length x.read) run) in
        ap₂ (λ (x : End) (n : ℕ). (x, n)) a b

    module _ (moving : Moving read s) {a : A} {next count' : ℕ} (both : step_of read s at count ≡ (handed a next, count')) (big : length s < 2 ^ 64) where
      step : step_at read s at ≡ handed a next
      step = ap (λ (x : Advance A × ℕ). x.0) both

      pub moves : (at < next) × (next ≤ length s)
      moves = moving at _ _ (run_more read zero s at step).here

      pub more : Running read s next count'
      more =
          let c : count_after (step_at read s at) count ≡ count' = ap (λ (x : Advance A × ℕ). x.1) both in
          let w = run_more read (length s - count) s at step in
          let m = moves in
          let next-count : (count + 1) % 2 ^ 64 ≡ count' = (rw step at c) in
          let one : count' ≡ count + 1 = omega (arith, r.behind, r.within) in
          let less : suc (length s) - count' ≡ length s - count = omega arith in
          let rest : Run A = run_at read (length s - count) s next in
          let run : run_at read (suc (length s) - count) s at ≡ record { read = a ∷ rest.read; end = rest.end } = rw fuel w.run in
          record {
            behind = omega (arith, r.behind);
            within = m.1;
            ends = rw less (sym (ap (λ (x : Run A). x.end) run) ∙ r.ends);
            counts = rw less (omega (arith, r.counts, ap (λ (x : Run A). length x.read) run));
          }
