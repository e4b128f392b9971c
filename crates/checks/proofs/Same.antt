-- Two answers that say the same in the document's numbers are the same answer: a step's paper is injective.
use mathlib.Core.Path.{◌≡◌, refl, ap}
use mathlib.Core.Bool.{Bool}
use Rattle.std.specs.Prelude.{Result, Ok, Err}
use Rattle.refusal.specs.declared.Refusal.{Refusal}
use Rattle.refusal.proofs.Same.{one-to-one, refusal, refusal-back}
use Rattle.checks.specs.Checks as checks
use Rattle.checks.specs.Paper.{step_paper}

step_back : checks.Step → Result Bool Refusal
step_back (checks.passes links) = Ok links
step_back (checks.breaks k vs) = Err (refusal k vs)

pub step_same : {r r' : Result Bool Refusal} → step_paper r ≡ step_paper r' → r ≡ r'
unfolding step_back
step_same = one-to-one step_paper step_back (elim [ Ok links ↦ refl | Err r ↦ ap Err (refusal-back r) ])
