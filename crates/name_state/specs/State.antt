-- Name states (document 01, module 6): what a state is, when it is null, which fields its record shows, and what binds
-- its name to its key.
use Rattle.std.specs.Prelude.{ℕ, ◌+◌, List, [], Bool, ◌&&◌, not, length, eqb}
use Rattle.std.specs.Bool.{beq}
use Rattle.words.specs.Buffers.{pick}
use Rattle.words.specs.Sameness.{same}
use Rattle.primitives.specs.Outpoints.{is_null, same_outpoint}
use Rattle.primitives.specs.declared.Outpoint.{Outpoint}
use Rattle.refusal.specs.Outcome.{Outcome, ok, err, then}
use Rattle.names.specs.Name.{name_hash}

-- the longest resource, the longest record, and the largest amount, 2^53 - 1
abbrev pub max_resource_size : ℕ
max_resource_size = 512

abbrev pub max_size : ℕ
max_size = 668

abbrev pub max_safe_integer : ℕ
max_safe_integer = 9007199254740991

-- the key is no part of the record: a state is read and written under it
pub record State : Type 0 where
  pub key : List ℕ
  pub name : List ℕ
  pub resource : List ℕ
  pub height : ℕ
  pub renewal : ℕ
  pub owner : Outpoint
  pub value : ℕ
  pub highest : ℕ
  pub transfer : ℕ
  pub revoked : ℕ
  pub claimed : ℕ
  pub renewals : ℕ
  pub registered : Bool
  pub expired : Bool
  pub weak : Bool

-- "Null means every field but key and name is zero, empty, unset or the null outpoint"
unfoldable pub null : State → Bool
null t =
    (eqb t.height 0 && eqb t.renewal 0)
    && (eqb t.value 0 && eqb t.highest 0)
    && (eqb t.transfer 0 && eqb t.revoked 0 && eqb t.claimed 0 && eqb t.renewals 0)
    && eqb (length t.resource) 0
    && not t.registered && not t.expired && not t.weak
    && is_null t.owner

-- a bit of the bitmap, of weight w
abbrev pub bit : ℕ → Bool → ℕ
bit w b = pick b w 0

-- "present fields by bit: 0 owner .., 1 value, 2 highest .., 3 transfer, 4 revoked, 5 claimed .., 6 renewals ..;
-- 7 registered, 8 expired, 9 weak": a field is present where it is not the null outpoint, not zero, or set
unfoldable pub bitmap : State → ℕ
bitmap t =
    bit 1 (not (is_null t.owner)) + bit 2 (not (eqb t.value 0)) + bit 4 (not (eqb t.highest 0))
    + bit 8 (not (eqb t.transfer 0)) + bit 16 (not (eqb t.revoked 0)) + bit 32 (not (eqb t.claimed 0)) + bit 64 (not (eqb t.renewals 0))
    + bit 128 t.registered + bit 256 t.expired + bit 512 t.weak

-- a name's hash and a key: 9 where they differ, the refusal of the hash where there is none
abbrev pub keyed : Outcome (List ℕ) → List ℕ → Outcome Unit
keyed o key = then o (λ hash p. pick (same hash key) (ok tt p) (err 9 [] p))

-- "unless null, 6 or 9"; "only null decides": the key is checked where the name is empty, too. Nothing is read, so
-- the place is 0
unfoldable pub binding : State → Outcome Unit
binding t = pick (null t) (ok tt 0) (keyed (name_hash t.name) t.key)

-- two states are the same: their keys, names, resources and every other field
unfoldable pub same_state : State → State → Bool
same_state t u =
    (same t.key u.key && same t.name u.name && same t.resource u.resource)
    && (eqb t.height u.height && eqb t.renewal u.renewal)
    && (eqb t.value u.value && eqb t.highest u.highest)
    && (eqb t.transfer u.transfer && eqb t.revoked u.revoked && eqb t.claimed u.claimed && eqb t.renewals u.renewals)
    && same_outpoint t.owner u.owner
    && (beq t.registered u.registered && beq t.expired u.expired && beq t.weak u.weak)
