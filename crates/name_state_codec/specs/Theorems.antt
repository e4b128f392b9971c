-- What is shown of states and their records. The statements; their proofs are in proofs/Theorems.antt.
use Rattle.std.specs.Prelude.{◌≡◌, ℕ, ◌^◌, ◌≤◌, ◌<◌, List, ◌++◌, false, length, take, drop}
use Rattle.words.specs.Words.{Bytes}
use Rattle.refusal.specs.Outcome.{ok, wrote}
use Rattle.primitives.specs.Theorems as outpoints
use Rattle.names.specs.Name.{max_name_size, name_hash}
use Rattle.name_state.specs.State.{State, max_resource_size, max_safe_integer, null}
use Rattle.name_state_codec.specs.Written.{state_bytes, checked_size, encode_answer, encode_content}
use Rattle.name_state_codec.specs.Read.{read_state}

-- what every state of the code is: the widths of its fields (value and highest are below what the writer accepts)
pub record Sized (t : State) : Type 0 where
  pub height : t.height < 2 ^ 32
  pub renewal : t.renewal < 2 ^ 32
  pub owner : outpoints.Sized t.owner
  pub transfer : t.transfer < 2 ^ 32
  pub revoked : t.revoked < 2 ^ 32
  pub claimed : t.claimed < 2 ^ 32
  pub renewals : t.renewals < 2 ^ 32

-- a state that can be written: its name and resource are not too long, its amounts not too large, and unless it is
-- null it has a valid name, whose hash is the key
pub record Writable (t : State) : Type 0 where
  pub sized : Sized t
  pub name : length t.name ≤ max_name_size
  pub resource : length t.resource ≤ max_resource_size
  pub value : t.value ≤ max_safe_integer
  pub highest : t.highest ≤ max_safe_integer
  pub bound : null t ≡ false → name_hash t.name ≡ ok t.key 0

-- what the writer's checks let pass can be written, and takes its record's bytes
abbrev pub AcceptedIsWritable : Type 0
AcceptedIsWritable = (t : State) (n : ℕ) → Sized t → checked_size t ≡ wrote n → Writable t

abbrev pub WritableIsAccepted : Type 0
WritableIsAccepted = (t : State) → Writable t → checked_size t ≡ wrote (length (state_bytes t))

-- a writer that answers n has put the record in the first n bytes, and left the others as they were
abbrev pub EncodeWrites : Type 0
EncodeWrites =
    (t : State) (d : List ℕ) (n : ℕ) → encode_answer t d ≡ wrote n
    → (take n (encode_content t d) ≡ state_bytes t) × (n ≡ length (state_bytes t)) × (drop n (encode_content t d) ≡ drop n d)

-- what is written reads back, under its key, to its end
abbrev pub StateReadsBack : Type 0
StateReadsBack = (t : State) → Writable t → read_state t.key (state_bytes t) ≡ ok t (length (state_bytes t))

-- what is accepted is, to its end, what the writer writes of the state that was read
abbrev pub AcceptedIsWritten : Type 0
AcceptedIsWritten =
    (key s : List ℕ) (t : State) (p : ℕ) → Bytes s → read_state key s ≡ ok t p
    → (t.key ≡ key) × (state_bytes t ≡ s) × Writable t × (checked_size t ≡ wrote (length s)) × (p ≡ length s)

-- and the writer writes it again, wherever there is room
abbrev pub WrittenAgain : Type 0
WrittenAgain =
    (key s : List ℕ) (t : State) (p : ℕ) (d : List ℕ) → read_state key s ≡ ok t p → length s ≤ length d
    → (encode_answer t d ≡ wrote (length s)) × (take (length s) (encode_content t d) ≡ s)

-- two states under one key are the same state, name, resource and fields, if the record of one begins the record of the
-- other
abbrev pub StateHasOneReading : Type 0
StateHasOneReading = (t u : State) (rest : List ℕ) → Writable t → Writable u → t.key ≡ u.key → state_bytes t ++ rest ≡ state_bytes u → t ≡ u

-- two states with the same bytes, neither null, have the same key
abbrev pub SameBytesSameKey : Type 0
SameBytesSameKey = (t u : State) → Writable t → Writable u → null t ≡ false → null u ≡ false → state_bytes t ≡ state_bytes u → t.key ≡ u.key
