-- A run of covenants, where each is told by its kind, how many items it has and the bytes used up: its steps and its
-- end are those of the run.
use Rattle.std.proofs.Common.{◌≡◌, ℕ, zero, suc, ◌^◌, ◌<◌, Bool, true, false, eqb, List, [], length, refl, ap, arith}
use Rattle.words.specs.Buffers.{pick}
use Rattle.refusal.specs.Outcome.{Outcome, ok, err}
use Rattle.refusal.proofs.Outcomes.{then_ok}
use Rattle.covenants.specs.Covenant.{Reading, Skimmed, skimmed, covenant_at}
use Rattle.covenants.proofs.Moves.{covenant-moves}
use Rattle.runs.specs.Run.{End, ended, onward, run_said, run_at, run_of, handed, last, advanced, step_at}
use Rattle.runs.specs.Covenants.{covenant_run}
use Rattle.runs.proofs.Steps.{apart}
use Rattle.runs.proofs.Running.{Moving}

-- a covenant, and what is told of it
abbrev pub Told : Reading → Skimmed
Told c = (c.kind, length c.items, c.used)

module _ (limit : ℕ) (s : List ℕ) where
  abbrev pub Skim : ℕ → Outcome Skimmed
  Skim p = skimmed (covenant_at limit s p)

  pub skim-moves : length s < 2 ^ 64 → Moving Skim s
  skim-moves big at a next e =
      let w = then_ok (covenant_at limit s at) e in
      let told = w.3 in
      let place : w.1 ≡ next = cc in
      let m = covenant-moves limit s at big w.2 in
      (omega arith, omega arith)

  -- the run of what is told ends alike, with as many
  skim-run : (n at : ℕ) → run_said (run_at Skim n s at) ≡ run_said (run_at (covenant_at limit s) n s at)
  unfolding run_at
  skim-run zero at = refl
  skim-run (suc n) at = go (eqb at (length s)) (covenant_at limit s at) (λ p. skim-run n p)
    where
      go : (t : Bool) (o : Outcome Reading) → ((p : ℕ) → run_said (run_at Skim n s p) ≡ run_said (run_at (covenant_at limit s) n s p))
          → run_said (pick t (record { read = []; end = ended }) (onward (skimmed o) (run_at Skim n s)))
          ≡ run_said (pick t (record { read = []; end = ended }) (onward o (run_at (covenant_at limit s) n s)))
      go true o onwards = refl
      go false (ok c p) onwards = ap (λ (x : End × ℕ). (x.0, suc x.1)) (onwards p)
      go false (err k vs p) onwards = refl

  pub skim-said : run_said (run_of Skim s) ≡ run_said (covenant_run limit s)
  unfolding run_of
  skim-said = skim-run (suc (length s)) 0

  module _ (at : ℕ) where
    pub skim-last : {e : End} → step_at Skim s at ≡ last e → step_at (covenant_at limit s) s at ≡ last e
    unfolding step_at
    skim-last {e} h = go (eqb at (length s)) (covenant_at limit s at) h
      where
        go : (t : Bool) (o : Outcome Reading) → pick t (last ended) (advanced (skimmed o)) ≡ last e → pick t (last ended) (advanced o) ≡ last e
        go true o h = let same : ended ≡ e = cc in ap last same
        go false (ok c p) h = absurd (apart refl h)
        go false (err k vs p) h = cc

    pub skim-handed : {said : Skimmed} {next : ℕ} → step_at Skim s at ≡ handed said next → (c : Reading) × (Told c ≡ said) × (step_at (covenant_at limit s) s at ≡ handed c next)
    unfolding step_at
    skim-handed {said} {next} h = go (eqb at (length s)) (covenant_at limit s at) h
      where
        go : (t : Bool) (o : Outcome Reading) → pick t (last ended) (advanced (skimmed o)) ≡ handed said next
            → (c : Reading) × (Told c ≡ said) × (pick t (last ended) (advanced o) ≡ handed c next)
        go true o h = absurd (apart h refl)
        go false (ok c p) h =
            let place : p ≡ next = cc in
            let says : ◌≡◌ {A = Skimmed} (c.kind, length c.items, c.used) said = cc in
            (c, says, ap (handed c) place)
        go false (err k vs p) h = absurd (apart h refl)
