-- Answers over names and name states as flat structs.
use Rattle.std.specs.Prelude.{Option, Some, None, true, false}
use Rattle.refusal.specs.Outcome.{Outcome, ok, err}
use Rattle.name_state.specs.declared.NameState.{NameState}
use Rattle.primitives.specs.declared.Outpoint.{Outpoint}
use Rattle.primitives.specs.Outpoints.{no_outpoint}
use Rattle.name_state_codec.specs.Paper.{zero_state}
use Rattle.capi.specs.Flat.{moved_flat}
use Rattle.capi.specs.declared.states.StateAnswer.{StateAnswer}
use Rattle.capi.specs.declared.states.OwnerAnswer.{OwnerAnswer}

-- a reader's outcome, and the state that stands beside it
abbrev pub state_flat : Outcome Unit × NameState → StateAnswer
state_flat d = record { stop = moved_flat d.0; state = d.1 }

-- the owner, where there is one; "Unused parts of an answer are zeros"
abbrev pub owner_flat : Option Outpoint → OwnerAnswer
owner_flat (Some p) = record { held = true; outpoint = p }
owner_flat None = record { held = false; outpoint = no_outpoint }

-- what is handed out of a state that was read: zeros where it was refused
abbrev pub state_or_zero : Outcome NameState → Outcome Unit × NameState
state_or_zero (ok t p) = (ok tt p, t)
state_or_zero (err k vs p) = (err k vs p, zero_state)
