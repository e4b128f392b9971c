-- Two results that meet a contract coincide, for each public function.
use mathlib.Core.Path.{◌≡◌}
use Prim.Native.Nat.{ℕ}
use mathlib.Core.Bool.{Bool}
use mathlib.Core.List.{List, []}
use Rattle.std.specs.Prelude.{Option, Result}
use Rattle.words.proofs.One.{one}
use Rattle.name_state.specs.State.{null, bitmap, binding, same_state}
use Rattle.refusal.specs.Paper.{judgement_paper}
use Rattle.refusal.specs.declared.Refusal.{Refusal}
use Rattle.refusal.proofs.Same.{judgement-same}
use Rattle.name_state.specs.Paper.{state_of, stored, null_state, owner_of, class_of, heights_of, amounts_of, times_of}
use Rattle.name_state.specs.declared.NameState.{NameState}
use Rattle.primitives.specs.declared.Outpoint.{Outpoint}
use Rattle.name_state.specs.declared.Class.{Class}
use Rattle.name_state.specs.declared.Heights.{Heights}
use Rattle.name_state.specs.declared.Amounts.{Amounts}
use Rattle.name_state.specs.declared.Times.{Times}

pub null-one : (key : List ℕ) {r r' : NameState} → r ≡ stored (null_state key []) → r' ≡ stored (null_state key []) → r ≡ r'
null-one key = one

module _ (p : NameState) where
  pub heights-one : {r r' : Heights} → r ≡ heights_of (state_of p) → r' ≡ heights_of (state_of p) → r ≡ r'
  heights-one = one

  pub amounts-one : {r r' : Amounts} → r ≡ amounts_of (state_of p) → r' ≡ amounts_of (state_of p) → r ≡ r'
  amounts-one = one

  pub times-one : {r r' : Times} → r ≡ times_of (state_of p) → r' ≡ times_of (state_of p) → r ≡ r'
  times-one = one

  pub is-null-one : {r r' : Bool} → r ≡ null (state_of p) → r' ≡ null (state_of p) → r ≡ r'
  is-null-one = one

  pub owner-outpoint-one : {r r' : Option Outpoint} → r ≡ owner_of (state_of p) → r' ≡ owner_of (state_of p) → r ≡ r'
  owner-outpoint-one = one

  pub class-one : {r r' : Class} → r ≡ class_of (state_of p) → r' ≡ class_of (state_of p) → r ≡ r'
  class-one = one

  pub bitmap-one : {r r' : ℕ} → r ≡ bitmap (state_of p) → r' ≡ bitmap (state_of p) → r ≡ r'
  bitmap-one = one

  pub validate-key-binding-one : {r r' : Result Unit Refusal} → judgement_paper r ≡ binding (state_of p) → judgement_paper r' ≡ binding (state_of p) → r ≡ r'
  validate-key-binding-one e f = judgement-same (one e f)

  pub same-one : (q : NameState) {r r' : Bool} → r ≡ same_state (state_of p) (state_of q) → r' ≡ same_state (state_of p) (state_of q) → r ≡ r'
  same-one q = one
