-- The theorems of specs/Theorems.antt.
use native.Mathlib.Omega.{arith}
use mathlib.Core.Path.{◌≡◌, refl}
use mathlib.Core.Bool.{Bool, true, beq}
use borrow.Author.Tests.{eqb-true}
use Rattle.words.proofs.Sameness.{same_true, same_refl, and-true}
use Rattle.primitives.specs.Outpoints.{same_outpoint}
use Rattle.primitives.specs.declared.Outpoint.{Outpoint}
use Rattle.std.proofs.lemmas.Bool.Decides.{nat_tests}
use Rattle.primitives.proofs.Theorems as outpoints
use Rattle.name_state.specs.State.{State, same_state}
use Rattle.name_state.specs.Theorems.{SameIsEqual, StoredHolds}
use Rattle.name_state.proofs.Text.{text-padded}

beq-true : (a b : Bool) → beq a b ≡ true → a ≡ b
beq-true a b e = grind arith

same-outpoint : (p q : Outpoint) → same_outpoint p q ≡ true → p ≡ q
same-outpoint p q = (outpoints.same-is-equal p q).0

ruleset told = (and-true, same_true, eqb-true, beq-true, same-outpoint)

abbrev Fields : State → State → Type 0
Fields t u =
    (t.key ≡ u.key) × (t.name ≡ u.name) × (t.resource ≡ u.resource) × (t.height ≡ u.height) × (t.renewal ≡ u.renewal) × (t.owner ≡ u.owner) × (t.value ≡ u.value) × (t.highest ≡ u.highest)
    × (t.transfer ≡ u.transfer) × (t.revoked ≡ u.revoked) × (t.claimed ≡ u.claimed) × (t.renewals ≡ u.renewals) × (t.registered ≡ u.registered) × (t.expired ≡ u.expired) × (t.weak ≡ u.weak)

fields : (t u : State) → same_state t u ≡ true → Fields t u
unfolding same_state
fields t u e = grind (arith, told)

outpoint-itself : (p : Outpoint) → same_outpoint p p ≡ true
outpoint-itself p = (outpoints.same-is-equal p p).1 refl

-- a state is its fields
abbrev again : State → State
again t = record { key = t.key; name = t.name; resource = t.resource; height = t.height; renewal = t.renewal; owner = t.owner; value = t.value; highest = t.highest; transfer = t.transfer; revoked = t.revoked; claimed = t.claimed; renewals = t.renewals; registered = t.registered; expired = t.expired; weak = t.weak }

again-same : (t u : State) → same_state t u ≡ true → again t ≡ again u
again-same t u e = let f = fields t u e in cc

itself : (u : State) → same_state u u ≡ true
unfolding same_state
itself u = grind (arith, nat_tests, same_refl, outpoint-itself)

pub same-is-equal : SameIsEqual
same-is-equal t u = (again-same t u, (λ e. rw e (itself u)))

pub stored-holds : StoredHolds
stored-holds t h k = rw (text-padded t.name 63 h, text-padded t.resource 512 k)
