-- A run of covenants has one reading: demand 3; and what its steps come to. The statements; their proofs are in
-- proofs/Theorems.antt.
use Rattle.std.specs.Prelude.{◌≡◌, ℕ, zero, suc, ◌*◌, ◌≤◌, List, [], ◌++◌, length, Some, Ok}
use Rattle.refusal.specs.Outcome.{ok}
use Rattle.encoding.specs.Joined.{All, joined}
use Rattle.encoding.specs.Theorems.{Lent}
use Rattle.covenants.specs.Covenant.{Reading, Skimmed, covenant_at}
use Rattle.covenants.specs.declared.Accepted.{Accepted}
use Rattle.covenants.specs.Theorems.{Meant, written, Writable}
use Rattle.runs.specs.Run.{End, onward, run_at, handed, last}
use Rattle.runs.specs.Covenants.{covenant_step}
use Rattle.runs.specs.Paper.{run_step_paper, run_start}
use Rattle.runs.specs.OneReading.{PrefixFree}
use Rattle.runs.specs.declared.Run.{Run}

-- ---- demand 3

abbrev pub AllWritable : List Meant → Type 0
AllWritable cs = All Writable cs

-- covenants written without gaps
abbrev pub run_bytes : List Meant → List ℕ
run_bytes cs = joined written cs

-- what the demand rests on: no covenant's bytes begin another's
abbrev pub CovenantsArePrefixFree : Type 0
CovenantsArePrefixFree = PrefixFree Writable written

-- demand 3: "of two runs of writable covenants written without gaps, if the bytes of one begin the bytes of the other,
-- its covenants are the first covenants of the other, kind and items"
abbrev pub RunHasOneReading : Type 0
RunHasOneReading =
    (cs ds : List Meant) (rest : List ℕ) → AllWritable cs → AllWritable ds → run_bytes cs ++ rest ≡ run_bytes ds
    → (more : List Meant) × (ds ≡ cs ++ more)

-- ---- steps

-- a step of the run reader is the first of the run: the last one ends it, and one that hands out a covenant leaves the
-- run after it. The covenant is the one that is read there, so that its items are those of `FindFindsItem`
pub record StepIsFirst (n limit : ℕ) (s : List ℕ) (at count : ℕ) : Type 0 where
  pub ends :
      {e : End} {count' : ℕ} → covenant_step limit s at count ≡ (last e, count')
      → run_at (covenant_at limit s) (suc n) s at ≡ record { read = []; end = e }
  pub goes :
      {said : Skimmed} {next count' : ℕ} → covenant_step limit s at count ≡ (handed said next, count')
      → (c : Reading) × (covenant_at limit s at ≡ ok c next) × ((c.kind, length c.items, c.used) ≡ said)
      × (run_at (covenant_at limit s) (suc n) s at ≡ onward (ok c next) (run_at (covenant_at limit s) n s))

abbrev pub StepsAreTheRun : Type 0
StepsAreTheRun = (n limit : ℕ) (s : List ℕ) (at count : ℕ) → StepIsFirst n limit s at count

-- ---- the count

-- where a run over s stands after k steps from its start that handed out a covenant each, each under its own allowance
abbrev pub Reached : List ℕ → ℕ → Run → Type 0
Reached s zero r = r ≡ run_start
Reached s (suc k) r =
    (before : Run) × (limit : ℕ) × (covenant : Accepted) × Reached s k before
    × (run_step_paper before.count (Ok (Some (covenant, r))) ≡ covenant_step limit s before.cursor.position before.count)

-- from the start the count is the number of covenants that were handed out, and not that number modulo 2^64: each takes
-- two of the bytes at least
abbrev pub CountNeverWraps : Type 0
CountNeverWraps =
    (s : List ℕ) (k : ℕ) (r : Run) → Lent s → Reached s k r → (r.count ≡ k) × (2 * k ≤ r.cursor.position) × (r.cursor.position ≤ length s)
