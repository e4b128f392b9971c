-- What a check answers, in the document's numbers.
use Rattle.std.specs.Prelude.{ℕ, List, Bool, Some, None, Result, Ok, Err}
use Rattle.std.specs.Prelude as code
use Rattle.std.proofs.Math.Option.{Option, some, none}
use Rattle.refusal.specs.Paper.{number_of, carried}
use Rattle.refusal.specs.declared.Refusal.{Refusal}
use Rattle.sheets.specs.Sheet.{Output, output_of}
use Rattle.sheets.specs.declared.Place.{Place}
use Rattle.checks.specs.Checks as checks

-- an input passes, and its partner is linked or not; or it breaks a rule
abbrev pub step_paper : Result Bool Refusal → checks.Step
step_paper (Ok links) = checks.passes links
step_paper (Err r) = checks.breaks (number_of r) (carried r)

-- the output that stands at a partner's place, if there is one
abbrev pub partner_of : List ℕ → code.Option Place → Option Output
partner_of s (Some p) = some (output_of s p)
partner_of s None = none
