-- Reading a record (document 01, module 6): "Read order: input over 668 (5); fields left to right, each judged when
-- read; trailing bytes; then unless null, 6 or 9; then 8 unless the writer would give the same bytes".
use Rattle.std.specs.Prelude.{ℕ, List, [], ◌∷◌, Bool, length, take, drop, ltb}
use Rattle.words.specs.Buffers.{pick}
use Rattle.words.specs.Sameness.{same}
use Rattle.refusal.specs.Outcome.{Outcome, ok, err, then}
use Rattle.encoding.specs.Wire.{slice_at, bytes_at, fixed_at, compact_at, finish_at}
use Rattle.primitives.specs.Outpoints.{outpoint, null_outpoint}
use Rattle.primitives.specs.declared.Outpoint.{Outpoint}
use Rattle.names.specs.Name.{max_name_size}
use Rattle.name_state.specs.State.{State, max_resource_size, max_size, max_safe_integer, binding}
use Rattle.name_state_codec.specs.Written.{has, safe_integer, state_bytes}

-- the reasons of 7, counted from 1: "name over 63, resource over 512, unknown bits, owner index, renewal count, safe
-- integer"
abbrev pub name_over : ℕ
name_over = 1

abbrev pub resource_over : ℕ
resource_over = 2

abbrev pub unknown_bits : ℕ
unknown_bits = 3

abbrev pub owner_index : ℕ
owner_index = 4

abbrev pub renewal_count : ℕ
renewal_count = 5

-- the ten bits of the bitmap that are known, all set
abbrev pub known_bits : ℕ
known_bits = 1023

-- the largest number of 32 bits
abbrev pub max_u32 : ℕ
max_u32 = 4294967295

-- a number above its maximum is 7, with the reason; the number has been passed
unfoldable pub up_to : ℕ → ℕ → ℕ → ℕ → Outcome ℕ
up_to maximum reason v next = pick (ltb maximum v) (err 7 (reason ∷ []) next) (ok v next)

-- bytes after their length, which takes so many bytes: where they stand, and how many
unfoldable pub text_at : ℕ → ℕ → ℕ → List ℕ → ℕ → Outcome (ℕ × ℕ)
text_at width maximum reason s at = then (then (fixed_at width s at) (up_to maximum reason)) (λ n next. slice_at n s next)

-- "name length (1 byte) and name, resource length (2) and resource ..
unfoldable pub texts_at : List ℕ → ℕ → Outcome ((ℕ × ℕ) × (ℕ × ℕ))
texts_at s at =
    then (text_at 1 max_name_size name_over s at) (λ name next.
    then (text_at 2 max_resource_size resource_over s next) (λ resource end.
    ok (name, resource) end))

-- .. height (4), renewal (4), bitmap (2) ..
unfoldable pub numbers_at : List ℕ → ℕ → Outcome (ℕ × ℕ × ℕ)
numbers_at s at =
    then (fixed_at 4 s at) (λ height at₁.
    then (fixed_at 4 s at₁) (λ renewal at₂.
    then (then (fixed_at 2 s at₂) (up_to known_bits unknown_bits)) (λ bits end.
    ok (height, renewal, bits) end)))

-- a field that is present, or what it is without
abbrev pub present : {A : Type 0} → Bool → Outcome A → A → ℕ → Outcome A
present b read absent at = pick b read (ok absent at)

-- "0 owner (32-byte hash, compact index) ..
unfoldable pub owner_at : List ℕ → ℕ → Outcome Outpoint
owner_at s at =
    then (bytes_at 32 s at) (λ hash next.
    then (then (compact_at s next) (up_to max_u32 owner_index)) (λ index end.
    ok (outpoint hash index) end))

-- .. 1 value, 2 highest (compact, at most 2^53 - 1) ..
unfoldable pub amount_at : List ℕ → ℕ → Outcome ℕ
amount_at s at = then (compact_at s at) (up_to max_safe_integer safe_integer)

unfoldable pub amounts_at : ℕ → List ℕ → ℕ → Outcome (ℕ × ℕ)
amounts_at b s at =
    then (present (has 2 b) (amount_at s at) 0 at) (λ value next.
    then (present (has 4 b) (amount_at s next) 0 next) (λ highest end.
    ok (value, highest) end))

unfoldable pub held_at : ℕ → List ℕ → ℕ → Outcome (Outpoint × (ℕ × ℕ))
held_at b s at =
    then (present (has 1 b) (owner_at s at) null_outpoint at) (λ owner next.
    then (amounts_at b s next) (λ amounts end.
    ok (owner, amounts) end))

-- .. 3 transfer, 4 revoked, 5 claimed (4 bytes each), 6 renewals (compact, u32)"
unfoldable pub times_at : ℕ → List ℕ → ℕ → Outcome (ℕ × ℕ × ℕ × ℕ)
times_at b s at =
    then (present (has 8 b) (fixed_at 4 s at) 0 at) (λ transfer at₁.
    then (present (has 16 b) (fixed_at 4 s at₁) 0 at₁) (λ revoked at₂.
    then (present (has 32 b) (fixed_at 4 s at₂) 0 at₂) (λ claimed at₃.
    then (present (has 64 b) (then (compact_at s at₃) (up_to max_u32 renewal_count)) 0 at₃) (λ renewals end.
    ok (transfer, revoked, claimed, renewals) end))))

-- the state that the fields make; "7 registered, 8 expired, 9 weak have no bytes"
unfoldable pub gathered : List ℕ → List ℕ → (ℕ × ℕ) × (ℕ × ℕ) → ℕ × ℕ × ℕ → Outpoint × (ℕ × ℕ) → ℕ × ℕ × ℕ × ℕ → State
gathered key s texts numbers held times =
    record {
      key = key;
      name = take texts.0.1 (drop texts.0.0 s);
      resource = take texts.1.1 (drop texts.1.0 s);
      height = numbers.0;
      renewal = numbers.1;
      owner = held.0;
      value = held.1.0;
      highest = held.1.1;
      transfer = times.0;
      revoked = times.1;
      claimed = times.2;
      renewals = times.3;
      registered = has 128 numbers.2;
      expired = has 256 numbers.2;
      weak = has 512 numbers.2;
    }

-- the fields that the bitmap tells of; with the state the bitmap that was read
unfoldable pub optional_at : List ℕ → List ℕ → (ℕ × ℕ) × (ℕ × ℕ) → ℕ × ℕ × ℕ → ℕ → Outcome (ℕ × State)
optional_at key s texts numbers at =
    then (held_at numbers.2 s at) (λ held next.
    then (times_at numbers.2 s next) (λ times end.
    ok (numbers.2, gathered key s texts numbers held times) end))

-- "fields left to right"
unfoldable pub fields_at : List ℕ → List ℕ → ℕ → Outcome (ℕ × State)
fields_at key s at =
    then (texts_at s at) (λ texts next.
    then (numbers_at s next) (λ numbers end.
    optional_at key s texts numbers end))

-- what is judged where a reader stands, and reads nothing
abbrev pub standing_at : ℕ → Outcome Unit → Outcome Unit
standing_at p (ok u q) = ok u p
standing_at p (err k vs q) = err k vs p

-- "trailing bytes; then unless null, 6 or 9; then 8 unless the writer would give the same bytes"
unfoldable pub judged_state : List ℕ → ℕ × State → ℕ → Outcome State
judged_state s read end =
    then (finish_at s end) (λ u at.
    then (standing_at at (binding read.1)) (λ u p.
    pick (same (state_bytes read.1) s) (ok read.1 p) (err 8 [] p)))

-- "input over 668 (5)": "0 before a decoder is made"
unfoldable pub read_state : List ℕ → List ℕ → Outcome State
read_state key s =
    pick (ltb max_size (length s)) (err 5 (length s ∷ max_size ∷ []) 0)
    (then (fields_at key s 0) (judged_state s))
