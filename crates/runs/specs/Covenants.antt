-- The run of covenants. Document 01, "Sheets and reports": "The run reader hands out back-to-back covenants, 1,000,009
-- allowed for each. It ends with their count when no bytes are left, or with the first refusal and the count before
-- it."
use Rattle.std.specs.Prelude.{ℕ, List}
use Rattle.covenants.specs.Covenant.{Reading, Skimmed, skimmed, covenant_at}
use Rattle.runs.specs.Run.{Run, run_of, Advance, step_of}

-- "1,000,009 allowed for each"
abbrev pub default_allowance : ℕ
default_allowance = 1000009

-- the run under an allowance for each covenant; any above 1,000,009 counts as that (`covenant_at`)
abbrev pub covenant_run : ℕ → List ℕ → Run Reading
covenant_run limit s = run_of (covenant_at limit s) s

-- one step of it, which hands out a covenant by its kind, how many items it has and the bytes used up
abbrev pub covenant_step : ℕ → List ℕ → ℕ → ℕ → Advance Skimmed × ℕ
covenant_step limit s at count = step_of (λ p. skimmed (covenant_at limit s p)) s at count
