-- What `hash_name` answers.
use Rattle.std.specs.Prelude.{ℕ, List, replicate, Result, Ok, Err}
use Rattle.refusal.specs.Outcome.{Outcome, ok, err}
use Rattle.refusal.specs.Paper.{number_of, carried}
use Rattle.refusal.specs.declared.Refusal.{Refusal}
use Rattle.primitives.specs.declared.NameHash.{NameHash}

-- a hash, or why there is none: nothing is read, so the place is 0
abbrev pub hashed_paper : Result NameHash Refusal → Outcome (List ℕ)
hashed_paper (Ok h) = ok h.0 0
hashed_paper (Err r) = err (number_of r) (carried r) 0

-- what is handed out over C: the hash beside the outcome; "Unused parts of an answer are zeros"
abbrev pub shown_hash : Outcome (List ℕ) → Outcome Unit × List ℕ
shown_hash (ok hash p) = (ok tt p, hash)
shown_hash (err k vs p) = (err k vs p, replicate 32 0)
