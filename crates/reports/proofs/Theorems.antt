-- The theorems of specs/Theorems.antt.
use Prim.Native.Nat.{ℕ, ◌-◌, ◌≤◌}
use native.Mathlib.Omega.{arith}
use mathlib.Core.List.{List}
use mathlib.Core.Bool.{Bool, true, false}
use lib.ListN.{length, take, drop}
use lib.Dec.{ltb}
use Rattle.words.specs.Buffers.{pick}
use Rattle.refusal.specs.Outcome.{Outcome, ok, err}
use Rattle.name_state.specs.State.{State}
use Rattle.name_state.specs.Paper.{class_of}
use Rattle.name_state_codec.specs.Read.{read_state}
use Rattle.sheets.specs.Sheet.{Judged, whole, refused, transaction_of}
use Rattle.links.specs.Verify.{Said, summary, stopped, verify_of}
use Rattle.texts.specs.Text.{refused_line}
use Rattle.texts.proofs.Puts.{refused-long}
use Rattle.reports.specs.Name.{state_line, name_line}
use Rattle.reports.specs.Link.{said_line, answer_line, judged_line, link_line}
use Rattle.reports.specs.Theorems.{NameLineFits, LinkLineFits}
use Rattle.reports.proofs.Line.{state-long, summary-long, stopped-long}

state-fits : (size : ℕ) (o : Outcome State) → length (state_line size o) ≤ 64
state-fits size (ok t end) = state-long (class_of t) (length t.name) size
state-fits size (err k vs p) = omega (arith, refused-long k)

-- the line of a refusal, or what follows it
first_fits : (b : Bool) (k : ℕ) (next : List ℕ) (n : ℕ) → 29 ≤ n → length next ≤ n → length (pick b (refused_line k) next) ≤ n
first_fits true k next n h l = omega (arith, refused-long k)
first_fits false k next n h l = l

pub name-line-fits : NameLineFits
unfolding name_line
name-line-fits file =
    let read : Outcome State = read_state (take 32 file) (drop 32 file) in
    first_fits (ltb (length file) 32) 1 (state_line (length file - 32) read) 64 (omega arith) (state-fits (length file - 32) read)

said_fits : (s : Said) → length (said_line s) ≤ 89
said_fits (summary inputs linked names) = summary-long inputs linked names
said_fits (stopped k vs side) = omega (arith, stopped-long k vs)

judged-fits : {A : Type 0} (j : Judged A) (next : List ℕ) → length next ≤ 89 → length (judged_line j next) ≤ 89
judged-fits (whole a) next h = h
judged-fits (refused k vs side) next h = omega (arith, stopped-long k vs)

pub link-line-fits : LinkLineFits
unfolding link_line
link-line-fits tx coins =
    let answer : List ℕ = answer_line (verify_of tx coins) in
    let next : List ℕ = pick (ltb 32768 (length coins)) (refused_line 28) answer in
    first_fits (ltb 32768 (length tx)) 28 (judged_line (transaction_of tx) next) 89 (omega arith)
    (judged-fits (transaction_of tx) next (first_fits (ltb 32768 (length coins)) 28 answer 89 (omega arith) (said_fits (verify_of tx coins).said)))
