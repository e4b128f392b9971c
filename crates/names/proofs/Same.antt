-- Two answers that say the same in the document's numbers are the same answer.
use mathlib.Core.Path.{◌≡◌, refl, ap}
use Prim.Native.Nat.{ℕ}
use mathlib.Core.List.{List}
use Rattle.std.specs.Prelude.{Result, Ok, Err}
use Rattle.refusal.specs.Outcome.{Outcome, ok, err}
use Rattle.refusal.specs.declared.Refusal.{Refusal}
use Rattle.refusal.proofs.Same.{one-to-one, refusal, refusal-back}
use Rattle.primitives.specs.declared.NameHash.{NameHash}
use Rattle.names.specs.Paper.{hashed_paper}

hashed-back : Outcome (List ℕ) → Result NameHash Refusal
hashed-back (ok h p) = Ok (record { 0 = h })
hashed-back (err k vs p) = Err (refusal k vs)

pub hashed-same : {r r' : Result NameHash Refusal} → hashed_paper r ≡ hashed_paper r' → r ≡ r'
unfolding hashed-back
hashed-same = one-to-one hashed_paper hashed-back (elim [ Ok h ↦ refl | Err r ↦ ap Err (refusal-back r) ])
