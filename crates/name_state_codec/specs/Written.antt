-- The record of a state, and the writer's checks in order (document 01, module 6).
use Rattle.std.specs.Prelude.{ℕ, ◌/◌, ◌%◌, List, [], ◌∷◌, ◌++◌, Bool, length, ltb, eqb}
use Rattle.words.specs.Words.{bytes}
use Rattle.words.specs.Buffers.{pick}
use Rattle.refusal.specs.Outcome.{Outcome, ok, err, Wrote, wrote, refused, next, filled}
use Rattle.encoding.specs.Wire.{compact, put_answer}
use Rattle.primitives.specs.declared.Outpoint.{Outpoint}
use Rattle.names.specs.Name.{max_name_size}
use Rattle.name_state.specs.State.{State, max_resource_size, max_safe_integer, bitmap, binding}

-- is the bit of weight w set in b
abbrev pub has : ℕ → ℕ → Bool
has w b = eqb (b / w % 2) 1

-- "name length (1 byte) and name, resource length (2) and resource ..
unfoldable pub texts_bytes : State → List ℕ
texts_bytes t = (bytes 1 (length t.name) ++ t.name) ++ (bytes 2 (length t.resource) ++ t.resource)

-- .. height (4), renewal (4), bitmap (2) ..
unfoldable pub numbers_bytes : ℕ → State → List ℕ
numbers_bytes b t = bytes 4 t.height ++ bytes 4 t.renewal ++ bytes 2 b

-- a field that is present
abbrev pub given : Bool → List ℕ → List ℕ
given b bs = pick b bs []

-- .. 0 owner (32-byte hash, compact index) ..
abbrev pub owner_record : Outpoint → List ℕ
owner_record o = o.transaction_hash.0 ++ compact o.index

-- .. 1 value, 2 highest (compact) ..
unfoldable pub held_bytes : ℕ → State → List ℕ
held_bytes b t = given (has 1 b) (owner_record t.owner) ++ (given (has 2 b) (compact t.value) ++ given (has 4 b) (compact t.highest))

-- .. 3 transfer, 4 revoked, 5 claimed (4 bytes each), 6 renewals (compact)"
unfoldable pub times_bytes : ℕ → State → List ℕ
times_bytes b t =
    given (has 8 b) (bytes 4 t.transfer) ++ given (has 16 b) (bytes 4 t.revoked) ++ given (has 32 b) (bytes 4 t.claimed) ++ given (has 64 b) (compact t.renewals)

-- the record of a state with the bitmap b; and with its own
unfoldable pub record_with : ℕ → State → List ℕ
record_with b t = texts_bytes t ++ numbers_bytes b t ++ (held_bytes b t ++ times_bytes b t)

unfoldable pub state_bytes : State → List ℕ
state_bytes t = record_with (bitmap t) t

-- the sixth of 7's reasons: "safe integer"
abbrev pub safe_integer : ℕ
safe_integer = 6

-- a check of a writer that reads nothing, and then, where it was not refused, what comes after it
abbrev pub unless : Outcome Unit → Wrote → Wrote
unless (ok u p) w = w
unless (err k vs p) w = refused k vs

-- "Write order: name length (5), resource length (5), value, highest (7), 6 or 9 unless null": else how many bytes the
-- record takes
unfoldable pub checked_size : State → Wrote
checked_size t =
    pick (ltb max_name_size (length t.name)) (refused 5 (length t.name ∷ max_name_size ∷ []))
    (pick (ltb max_resource_size (length t.resource)) (refused 5 (length t.resource ∷ max_resource_size ∷ []))
    (pick (ltb max_safe_integer t.value) (refused 7 (safe_integer ∷ []))
    (pick (ltb max_safe_integer t.highest) (refused 7 (safe_integer ∷ []))
    (unless (binding t) (wrote (length (state_bytes t)))))))

-- ".. 29"
unfoldable pub encode_answer : State → List ℕ → Wrote
encode_answer t d = next (checked_size t) (λ n. put_answer 0 (state_bytes t) d)

unfoldable pub encode_content : State → List ℕ → List ℕ
encode_content t d = filled (encode_answer t d) (state_bytes t) d
