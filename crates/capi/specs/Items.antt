-- Answers over runs of covenants and single items as flat structs.
use Rattle.std.specs.Prelude.{ℕ, true, false, []}
use Rattle.std.proofs.Math.Option.{Option, some, none}
use Rattle.refusal.specs.Outcome.{position_of}
use Rattle.covenants.specs.Covenant.{Skimmed}
use Rattle.runs.specs.Run.{End, ended, stopped, Advance, handed, last}
use Rattle.capi.specs.Flat.{stop_flat}
use Rattle.capi.specs.declared.sheet.ViewAnswer.{ViewAnswer}
use Rattle.capi.specs.declared.items.StepAnswer.{StepAnswer}
use Rattle.capi.specs.declared.items.RunAnswer.{RunAnswer}
use Rattle.capi.specs.declared.items.ItemAnswer.{ItemAnswer}

-- a step that gave a covenant has it, and the position after it; the last one says whether no bytes are left
abbrev pub step_after : Advance Skimmed → ℕ → StepAnswer
step_after (handed said next) n = record { stop = stop_flat 0 [] next; ended = false; kind = said.0; count = said.1; used = said.2; covenants = n }
step_after (last ended) n = record { stop = stop_flat 0 [] 0; ended = true; kind = 0; count = 0; used = 0; covenants = n }
step_after (last (stopped k vs p)) n = record { stop = stop_flat k vs (position_of p); ended = false; kind = 0; count = 0; used = 0; covenants = n }

abbrev pub step_flat : Advance Skimmed × ℕ → StepAnswer
step_flat a = step_after a.0 a.1

abbrev pub run_after : End → ℕ → RunAnswer
run_after ended n = record { stop = stop_flat 0 [] 0; covenants = n }
run_after (stopped k vs p) n = record { stop = stop_flat k vs (position_of p); covenants = n }

abbrev pub run_flat : End × ℕ → RunAnswer
run_flat e = run_after e.0 e.1

abbrev pub place_flat : Option (ℕ × ℕ) → ViewAnswer
place_flat (some part) = record { exists = true; offset = part.0; length = part.1 }
place_flat none = record { exists = false; offset = 0; length = 0 }

abbrev pub item_flat : Option ℕ → ItemAnswer
item_flat (some v) = record { exists = true; value = v }
item_flat none = record { exists = false; value = 0 }
