-- What a state is whose name is bound to its key.
use native.Mathlib.Omega.{arith}
use mathlib.Core.Path.{◌≡◌, ap₂, ◌∙◌}
use Prim.Native.Nat.{ℕ}
use mathlib.Core.Bool.{false}
use Rattle.words.specs.Sameness.{same}
use Rattle.words.proofs.Sameness.{same_refl, same_true}
use Rattle.refusal.specs.Outcome.{ok}
use Rattle.refusal.proofs.Outcomes.{then_ok, kept}
use Rattle.names.specs.Name.{name_hash}
use Rattle.names.proofs.Hash.{hash-place}
use Rattle.name_state.specs.State.{State, null, keyed, binding}

-- a state that is not null has a valid name, whose hash is the key
abbrev pub Keyed : State → Type 0
Keyed t = null t ≡ false → name_hash t.name ≡ ok t.key 0

pub bound-keyed : (t : State) {u : Unit} {p : ℕ} → binding t ≡ ok u p → Keyed t
unfolding binding
bound-keyed t {u} {p} e n =
    let f : keyed (name_hash t.name) t.key ≡ ok u p = rw n at e in
    let w = then_ok (name_hash t.name) f in
    let k = kept (same w.0 t.key) _ _ _ _ w.3 in
    w.2 ∙ ap₂ ok (same_true w.0 t.key k.0) (hash-place t.name w.2)

pub keyed-bound : (t : State) → Keyed t → binding t ≡ ok tt 0
unfolding binding
keyed-bound t f = grind (arith, same_refl)
