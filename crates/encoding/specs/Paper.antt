-- What each answer says, in the document's numbers.
use Rattle.std.specs.Prelude.{ℕ, List, replicate, Result, Ok, Err}
use Rattle.refusal.specs.Outcome.{Outcome, ok, err}
use Rattle.refusal.specs.Paper.{stop_paper}
use Rattle.refusal.specs.declared.Stop.{Stop}
use Rattle.encoding.specs.declared.read.Cursor.{Cursor}
use Rattle.encoding.specs.declared.read.Span.{Span}

-- a read of something, which says what it means
abbrev pub read_as : {A B : Type 0} → (A → B) → Result (A × Cursor) Stop → Outcome B
read_as mean (Ok r) = ok (mean r.0) r.1.position
read_as mean (Err s) = stop_paper s

-- a read of something that means itself
abbrev pub read_paper : {A : Type 0} → Result (A × Cursor) Stop → Outcome A
read_paper (Ok r) = ok r.0 r.1.position
read_paper (Err s) = stop_paper s

-- a read of a part: its start and its length
abbrev pub span_paper : Result (Span × Cursor) Stop → Outcome (ℕ × ℕ)
span_paper (Ok r) = ok (r.0.start, r.0.len) r.1.position
span_paper (Err s) = stop_paper s

-- a read of which only the end is told
abbrev pub moved_paper : Result Cursor Stop → Outcome Unit
moved_paper (Ok next) = ok tt next.position
moved_paper (Err s) = stop_paper s

-- what reading n bytes hands out over C: the bytes beside the outcome; "Unused parts of an answer are zeros"
abbrev pub shown_bytes : ℕ → Outcome (List ℕ) → Outcome Unit × List ℕ
shown_bytes n (ok bs next) = (ok tt next, bs)
shown_bytes n (err k vs p) = (err k vs p, replicate n 0)
