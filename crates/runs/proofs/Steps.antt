-- One step of a run is the first of the run, of whatever the run is.
use Rattle.std.proofs.Common.{◌≡◌, ℕ, suc, Bool, true, false, eqb, List, [], ◌∷◌, length, refl, ap, ◌∙◌}
use Rattle.words.specs.Buffers.{pick}
use Rattle.refusal.specs.Outcome.{Outcome, ok, err}
use Rattle.runs.specs.Run.{End, ended, stopped, onward, run_at, Advance, handed, last, advanced, step_at}

-- no step both hands out something and is the last
pub apart : {A : Type 0} {step : Advance A} {a : A} {next : ℕ} {e : End} → step ≡ handed a next → step ≡ last e → ⊥
apart p q = cc

module _ {A : Type 0} (read : ℕ → Outcome A) (n : ℕ) (s : List ℕ) (at : ℕ) where
  -- a step that was the last: the run ends there
  pub run-last : {e : End} → step_at read s at ≡ last e → run_at read (suc n) s at ≡ record { read = []; end = e }
  unfolding step_at run_at
  run-last {e} h = go (eqb at (length s)) (read at) h
    where
      go : (t : Bool) (o : Outcome A) → pick t (last ended) (advanced o) ≡ last e
          → pick t (record { read = []; end = ended }) (onward o (run_at read n s)) ≡ record { read = []; end = e }
      go true o h = let same : ended ≡ e = cc in ap (λ (x : End). record { read = []; end = x }) same
      go false (ok a p) h = absurd (apart refl h)
      go false (err k vs p) h = let same : stopped k vs p ≡ e = cc in ap (λ (x : End). record { read = []; end = x }) same

  -- a step that hands out something: the run is that, and the run after it
  pub record More (a : A) (next : ℕ) : Type 0 where
    pub here : read at ≡ ok a next
    pub run : run_at read (suc n) s at ≡ record { read = a ∷ (run_at read n s next).read; end = (run_at read n s next).end }

  pub run_more : {a : A} {next : ℕ} → step_at read s at ≡ handed a next → More a next
  unfolding step_at run_at
  run_more {a} {next} h = go (eqb at (length s)) (read at) refl refl h
    where
      go : (t : Bool) (o : Outcome A) → eqb at (length s) ≡ t → read at ≡ o → pick t (last ended) (advanced o) ≡ handed a next → More a next
      go true o f g h = absurd (apart h refl)
      go false (ok b p) f g h =
          let thing : b ≡ a = cc in
          let place : p ≡ next = cc in
          let here : read at ≡ ok a next = g ∙ ap (ok b) place ∙ ap (λ x. ok x next) thing in
          record { here = here; run = rw (f, here) }
      go false (err k vs p) f g h = absurd (apart h refl)
