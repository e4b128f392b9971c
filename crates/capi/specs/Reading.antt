-- Answers of single reads as flat structs.
use Rattle.std.specs.Prelude.{ℕ, List, []}
use Rattle.refusal.specs.Outcome.{position_of, Outcome, ok, err}
use Rattle.primitives.specs.declared.Outpoint.{Outpoint}
use Rattle.capi.specs.Flat.{stop_flat, moved_flat}
use Rattle.capi.specs.declared.wire.NumberAnswer.{NumberAnswer}
use Rattle.capi.specs.declared.wire.SpanAnswer.{SpanAnswer}
use Rattle.capi.specs.declared.wire.OutpointAnswer.{OutpointAnswer}

abbrev pub number_flat : Outcome ℕ → NumberAnswer
number_flat (ok v p) = record { stop = stop_flat 0 [] p; value = v }
number_flat (err k vs p) = record { stop = stop_flat k vs (position_of p); value = 0 }

-- the start of the bytes, and how many they are
abbrev pub span_flat : Outcome (ℕ × ℕ) → SpanAnswer
span_flat (ok part p) = record { stop = stop_flat 0 [] p; start = part.0; length = part.1 }
span_flat (err k vs p) = record { stop = stop_flat k vs (position_of p); start = 0; length = 0 }

-- a reader's outcome, and the outpoint that stands beside it
abbrev pub outpoint_flat : Outcome Unit × Outpoint → OutpointAnswer
outpoint_flat r = record { stop = moved_flat r.0; outpoint = r.1 }

-- the bytes that were read, or others where they were refused
abbrev pub bytes_or : List ℕ → Outcome (List ℕ) → List ℕ
bytes_or others (ok bs p) = bs
bytes_or others (err k vs p) = others
