-- Answers as flat structs: no enum crosses the C boundary. A refusal is its number in document 01's table and up to
-- three of what it carries; an accepted answer has the number 0. "Unused parts of an answer are zeros".
use Rattle.std.specs.Prelude.{ℕ, List, [], get_or}
use Rattle.refusal.specs.Outcome.{position_of, Outcome, ok, err, Wrote, wrote, refused}
use Rattle.covenants.specs.Covenant.{Skimmed}
use Rattle.capi.specs.declared.FlatStop.{FlatStop}
use Rattle.capi.specs.declared.CovenantAnswer.{CovenantAnswer}
use Rattle.capi.specs.declared.WriteAnswer.{WriteAnswer}

-- the number, 0 where nothing is refused, up to three of what a refusal carries, and where the reader then stands.
-- "Unused parts of an answer are zeros"
abbrev pub stop_flat : ℕ → List ℕ → ℕ → FlatStop
stop_flat number carried position = record { number = number; first = get_or carried 0 0; second = get_or carried 1 0; third = get_or carried 2 0; position = position }

-- a read that has no value, or whose value stands elsewhere
abbrev pub moved_flat : Outcome Unit → FlatStop
moved_flat (ok u p) = stop_flat 0 [] p
moved_flat (err k vs p) = stop_flat k vs (position_of p)

abbrev pub covenant_flat : Outcome Skimmed → CovenantAnswer
covenant_flat (ok said p) = record { stop = stop_flat 0 [] p; kind = said.0; count = said.1; used = said.2 }
covenant_flat (err k vs p) = record { stop = stop_flat k vs (position_of p); kind = 0; count = 0; used = 0 }

abbrev pub write_flat : Wrote → WriteAnswer
write_flat (wrote n) = record { number = 0; first = 0; second = 0; third = 0; written = n }
write_flat (refused k vs) = record { number = k; first = get_or vs 0 0; second = get_or vs 1 0; third = get_or vs 2 0; written = 0 }
