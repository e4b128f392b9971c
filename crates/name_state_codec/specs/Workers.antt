-- Words for private functions.
use Rattle.std.specs.Prelude.{◌≡◌, ℕ, ◌+◌, ◌≤◌, List, [], ◌∷◌, ◌++◌, not, length, ltb, eqb}
use Rattle.words.specs.Words.{bytes}
use Rattle.words.specs.Buffers.{pick, over}
use Rattle.refusal.specs.Outcome.{Outcome, ok, err, then}
use Rattle.encoding.specs.Wire.{compact, finish_at}
use Rattle.primitives.specs.Outpoints.{is_null}
use Rattle.primitives.specs.declared.Outpoint.{Outpoint}
use Rattle.names.specs.Name.{max_name_size}
use Rattle.name_state.specs.State.{State, max_resource_size, max_safe_integer, bitmap, binding}
use Rattle.name_state.specs.declared.Amounts.{Amounts}
use Rattle.name_state.specs.declared.Times.{Times}
use Rattle.name_state_codec.specs.declared.read.Reason.{Reason}
use Rattle.name_state_codec.specs.declared.read.Texts.{Texts}
use Rattle.name_state_codec.specs.declared.read.Numbers.{Numbers}
use Rattle.name_state_codec.specs.declared.decode.Fields.{Fields}
use Rattle.name_state_codec.specs.Read.{name_over, resource_over, unknown_bits, owner_index, renewal_count, gathered, standing_at}
use Rattle.name_state_codec.specs.Written.{given, owner_record, safe_integer}

-- the number of a reason of 7
abbrev pub reason_number : Reason → ℕ
reason_number Reason.NameOver = name_over
reason_number Reason.ResourceOver = resource_over
reason_number Reason.UnknownBits = unknown_bits
reason_number Reason.OwnerIndex = owner_index
reason_number Reason.RenewalCount = renewal_count
reason_number Reason.SafeInteger = safe_integer

-- ---- what was read, in numbers
abbrev pub texts_said : Texts → (ℕ × ℕ) × (ℕ × ℕ)
texts_said t = ((t.name.start, t.name.len), (t.resource.start, t.resource.len))

abbrev pub numbers_said : Numbers → ℕ × ℕ × ℕ
numbers_said n = (n.height.0, n.renewal.0, n.bits)

abbrev pub amounts_said : Amounts → ℕ × ℕ
amounts_said a = (a.value.0, a.highest.0)

abbrev pub times_said : Times → ℕ × ℕ × ℕ × ℕ
times_said t = (t.transfer.0, t.revoked.0, t.claimed.0, t.renewals)

-- the state that the fields make
abbrev pub gathered_of : List ℕ → List ℕ → Fields → State
gathered_of key s f = gathered key s (texts_said f.texts) (numbers_said f.numbers) (f.owner, amounts_said f.amounts) (times_said f.times)

-- the texts stand inside the record, and none is too long
abbrev pub Inside : List ℕ → Texts → Type 0
Inside s t =
    (t.name.len ≤ max_name_size) × (t.resource.len ≤ max_resource_size)
    × (t.name.start + t.name.len ≤ length s) × (t.resource.start + t.resource.len ≤ length s)

-- ---- the judgement with 8 told by the bitmap, as the code does (proofs/Canonical.antt: `read-bits`, it is the same)
unfoldable pub judged_bits : List ℕ → ℕ × State → ℕ → Outcome State
judged_bits s read end =
    then (finish_at s end) (λ u at.
    then (standing_at at (binding read.1)) (λ u p.
    pick (eqb (bitmap read.1) read.0) (ok read.1 p) (err 8 [] p)))

-- ---- two of the writer's checks
abbrev pub limited : ℕ → ℕ → Outcome Unit
limited maximum n = pick (ltb maximum n) (err 5 (n ∷ maximum ∷ []) 0) (ok tt 0)

abbrev pub safe : ℕ → Outcome Unit
safe v = pick (ltb max_safe_integer v) (err 7 (safe_integer ∷ []) 0) (ok tt 0)

-- ---- the present fields by their values alone, as the code writes them (proofs/Own.antt: the same bytes)
unfoldable pub owner_bytes : Outpoint → List ℕ
owner_bytes o = given (not (is_null o)) (owner_record o)

unfoldable pub amount_bytes : ℕ → List ℕ
amount_bytes v = given (not (eqb v 0)) (compact v)

unfoldable pub time_bytes : ℕ → List ℕ
time_bytes v = given (not (eqb v 0)) (bytes 4 v)

unfoldable pub own_held : Outpoint → Amounts → List ℕ
own_held o a = owner_bytes o ++ (amount_bytes a.value.0 ++ amount_bytes a.highest.0)

unfoldable pub own_times : Times → List ℕ
own_times t = time_bytes t.transfer.0 ++ time_bytes t.revoked.0 ++ time_bytes t.claimed.0 ++ amount_bytes t.renewals

-- the bytes of a text after its length, which takes so many bytes
abbrev pub text_bytes : ℕ → List ℕ → List ℕ
text_bytes width bs = bytes width (length bs) ++ bs

-- height, renewal and the bitmap
abbrev pub number_bytes : Numbers → List ℕ
number_bytes n = bytes 4 n.height.0 ++ bytes 4 n.renewal.0 ++ bytes 2 n.bits

-- bytes that were put from a place on: where they end, and all that is there then
abbrev pub Puts : ℕ → List ℕ → List ℕ → ℕ → List ℕ → Type 0
Puts at bs d end d' = (end ≡ at + length bs) × (d' ≡ over at bs d)
