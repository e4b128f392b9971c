-- A run: things of one kind that stand back to back, read one after the other. What reads one of them at a place is an
-- argument, `read`. Document 01, "Sheets and reports": the run reader "ends with their count when no bytes are left, or
-- with the first refusal and the count before it".
use Rattle.std.specs.Prelude.{ℕ, zero, suc, ◌+◌, ◌%◌, ◌^◌, List, [], ◌∷◌, length, ◌==◌}
use Rattle.words.specs.Buffers.{pick}
use Rattle.refusal.specs.Outcome.{Stand, Outcome, ok, err}

-- how a run ends: no bytes are left, or a refusal by its number, what it carries and where the reader stands
pub data End : Type 0 where
  ended : End
  stopped : ℕ → List ℕ → Stand → End

-- what was read of a run, and how it ends
pub record Run (A : Type 0) : Type 0 where
  pub read : List A
  pub end : End

abbrev with_first : {A : Type 0} → A → Run A → Run A
with_first a r = record { read = a ∷ r.read; end = r.end }

-- one thing, and then what comes after it
abbrev pub onward : {A : Type 0} → Outcome A → (ℕ → Run A) → Run A
onward (ok a next) f = with_first a (f next)
onward (err k vs p) f = record { read = []; end = stopped k vs p }

-- what is said of a run: how it ends, and how many things came before
abbrev pub run_said : {A : Type 0} → Run A → End × ℕ
run_said r = (r.end, length r.read)

-- the run from a place on, of fewer than so many things
unfoldable pub run_at : {A : Type 0} → (ℕ → Outcome A) → ℕ → List ℕ → ℕ → Run A
run_at read zero s at = record { read = []; end = ended }
run_at read (suc n) s at = pick (at == length s) (record { read = []; end = ended }) (onward (read at) (run_at read n s))

-- the whole run: where each thing takes a byte at least, there are no more of them than bytes
unfoldable pub run_of : {A : Type 0} → (ℕ → Outcome A) → List ℕ → Run A
unfolding run_at
run_of read s = run_at read (suc (length s)) s 0

-- ---- one step

-- what is handed out, and the position after it; or how the run ends
pub data Advance (A : Type 0) : Type 0 where
  handed : A → ℕ → Advance A
  last : End → Advance A

abbrev pub advanced : {A : Type 0} → Outcome A → Advance A
advanced (ok a next) = handed a next
advanced (err k vs p) = last (stopped k vs p)

-- how many things there are after a step; the code's number is one of 64 bits
abbrev pub count_after : {A : Type 0} → Advance A → ℕ → ℕ
count_after (handed a next) count = (count + 1) % 2 ^ 64
count_after (last end) count = count

-- the step from a place on
unfoldable pub step_at : {A : Type 0} → (ℕ → Outcome A) → List ℕ → ℕ → Advance A
step_at read s at = pick (at == length s) (last ended) (advanced (read at))

-- and how many things there are after it, where there were so many before
abbrev pub step_of : {A : Type 0} → (ℕ → Outcome A) → List ℕ → ℕ → ℕ → Advance A × ℕ
step_of read s at count = (step_at read s at, count_after (step_at read s at) count)
