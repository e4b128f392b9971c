-- What the answers say.
use Rattle.std.specs.Prelude.{[], replicate, Result}
use Rattle.refusal.specs.Outcome.{Outcome, ok, err}
use Rattle.refusal.specs.declared.Stop.{Stop}
use Rattle.encoding.specs.Paper.{read_as}
use Rattle.encoding.specs.declared.read.Cursor.{Cursor}
use Rattle.primitives.specs.Outpoints.{outpoint}
use Rattle.name_state.specs.State.{State}
use Rattle.name_state.specs.Paper.{state_of, stored, bare}
use Rattle.name_state.specs.declared.NameState.{NameState}

-- the reader's answer, of what was read: the state as it is stored
abbrev pub decoded : Outcome State → Outcome NameState
decoded (ok t p) = ok (stored t) p
decoded (err k vs p) = err k vs p

-- "Unused parts of an answer are zeros"
abbrev pub zero_state : NameState
zero_state = stored (bare (replicate 32 0) [] (outpoint (replicate 32 0) 0))

-- what is handed out over C: the state beside the outcome, zeros where it was refused
abbrev pub shown_state : Outcome State → Outcome Unit × NameState
shown_state (ok t p) = (ok tt p, stored t)
shown_state (err k vs p) = (err k vs p, zero_state)

-- the reader's answer as what was read (proofs/Decoded.antt: it is `read_state`)
abbrev pub decoded_state : Result (NameState × Cursor) Stop → Outcome State
decoded_state = read_as state_of
