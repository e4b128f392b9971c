-- What a `NameState` holds, and what the answers say.
use Rattle.std.specs.Prelude.{ℕ, ◌-◌, List, [], ◌++◌, false, length, take, replicate, Option, Some, None}
use Rattle.words.specs.Buffers.{pick, zero_padded}
use Rattle.primitives.specs.declared.Outpoint.{Outpoint}
use Rattle.primitives.specs.Outpoints.{null_outpoint, is_null}
use Rattle.names.specs.Name.{max_name_size}
use Rattle.name_state.specs.State.{State, max_resource_size, null}
use Rattle.name_state.specs.declared.NameState.{NameState}
use Rattle.name_state.specs.declared.Class.{Class}
use Rattle.name_state.specs.declared.Heights.{Heights}
use Rattle.name_state.specs.declared.Amounts.{Amounts}
use Rattle.name_state.specs.declared.Times.{Times}

-- the first n bytes of an array, "bytes past either length .. are ignored"; where n is more than the array has, zeros
-- stand for the others
unfoldable pub text : ℕ → List ℕ → List ℕ
text n bs = take n bs ++ replicate (n - length bs) 0

-- the state that a `NameState` holds
abbrev pub state_of : NameState → State
state_of p =
    record {
      key = p.name_hash.0;
      name = text p.name_length p.name;
      resource = text p.resource_length p.resource_data;
      height = p.height.0;
      renewal = p.renewal.0;
      owner = p.owner;
      value = p.value.0;
      highest = p.highest.0;
      transfer = p.transfer.0;
      revoked = p.revoked.0;
      claimed = p.claimed.0;
      renewals = p.renewals;
      registered = p.registered;
      expired = p.expired;
      weak = p.weak;
    }

-- the `NameState` that is made of a state: zeros past either length
abbrev pub stored : State → NameState
stored t =
    record {
      name_hash = record { 0 = t.key };
      name = zero_padded max_name_size t.name;
      name_length = length t.name;
      resource_data = zero_padded max_resource_size t.resource;
      resource_length = length t.resource;
      height = record { 0 = t.height };
      renewal = record { 0 = t.renewal };
      owner = t.owner;
      value = record { 0 = t.value };
      highest = record { 0 = t.highest };
      transfer = record { 0 = t.transfer };
      revoked = record { 0 = t.revoked };
      claimed = record { 0 = t.claimed };
      renewals = t.renewals;
      registered = t.registered;
      expired = t.expired;
      weak = t.weak;
    }

-- a state that has a key, a name and an owner, and nothing else
abbrev pub bare : List ℕ → List ℕ → Outpoint → State
bare key name owner =
    record {
      key = key;
      name = name;
      resource = [];
      height = 0;
      renewal = 0;
      owner = owner;
      value = 0;
      highest = 0;
      transfer = 0;
      revoked = 0;
      claimed = 0;
      renewals = 0;
      registered = false;
      expired = false;
      weak = false;
    }

-- the null state of a key, with a name
abbrev pub null_state : List ℕ → List ℕ → State
null_state key name = bare key name null_outpoint

-- the owner, where there is one
abbrev pub owner_of : State → Option Outpoint
owner_of t = pick (is_null t.owner) None (Some t.owner)

-- "CLASS is null, or held if the owner isn't null, else free"
abbrev pub class_of : State → Class
class_of t = pick (null t) Class.Null (pick (is_null t.owner) Class.Free Class.Held)

-- the fields that go together, each of its kind
abbrev pub heights_of : State → Heights
heights_of t = record { height = record { 0 = t.height }; renewal = record { 0 = t.renewal } }

abbrev pub amounts_of : State → Amounts
amounts_of t = record { value = record { 0 = t.value }; highest = record { 0 = t.highest } }

abbrev pub times_of : State → Times
times_of t = record { transfer = record { 0 = t.transfer }; revoked = record { 0 = t.revoked }; claimed = record { 0 = t.claimed }; renewals = t.renewals }

-- the class as a number, where no enum can stand
abbrev pub class_number : Class → ℕ
class_number Class.Null = 0
class_number Class.Held = 1
class_number Class.Free = 2
