-- Two results that meet a contract coincide, for each public function.
use mathlib.Core.Path.{◌≡◌, ap₂}
use Prim.Native.Nat.{ℕ, ◌%◌, ◌^◌}
use mathlib.Core.List.{List}
use Rattle.std.specs.Prelude.{Result}
use Rattle.words.specs.Words.{bytes}
use Rattle.words.specs.Buffers.{laid}
use Rattle.words.proofs.One.{one, one_each}
use Rattle.refusal.specs.Paper.{standing, put_paper}
use Rattle.refusal.specs.declared.Refusal.{Refusal}
use Rattle.refusal.specs.declared.Stop.{Stop}
use Rattle.refusal.proofs.Same.{put_same}
use Rattle.encoding.specs.Wire.{remaining_at, slice_at, bytes_at, fixed_at, compact_at, compact_most, bounded_at, varbytes_at, finish_at, compact, compact_size, varbytes, put_answer}
use Rattle.encoding.specs.Paper.{read_as, read_paper, span_paper, moved_paper}
use Rattle.encoding.proofs.Same.{read-same, read-as-same, span_same, moved_same}
use Rattle.encoding.specs.declared.read.Cursor.{Cursor}
use Rattle.encoding.specs.declared.read.Span.{Span}

pub cut-one : (at needed : ℕ) {r r' : Stop} → (r.refusal ≡ Refusal.UnexpectedEnd at needed) × (standing r ≡ at)
    → (r'.refusal ≡ Refusal.UnexpectedEnd at needed) × (standing r' ≡ at) → r ≡ r'
cut-one at needed e f = let w = one_each e f in ap₂ (λ x p. record { refusal = x; position = p }) w.0 w.1

-- a number of a type of the trait: no other value is the same number
module _ {T : Type 0} (number : T → ℕ) (same : (x y : T) → number x ≡ number y → x ≡ y) where
  pub from-u64-one : (width v : ℕ) {x x' : T} → number x ≡ v % 256 ^ width → number x' ≡ v % 256 ^ width → x ≡ x'
  from-u64-one width v {x} {x'} e f = same x x' (one e f)

  pub into-u64-one : (x : T) {v v' : ℕ} → v ≡ number x → v' ≡ number x → v ≡ v'
  into-u64-one x = one

  pub read-le-one : (width : ℕ) (s : List ℕ) (at : ℕ) {r r' : Result (T × Cursor) Stop} → read_as number r ≡ fixed_at width s at → read_as number r' ≡ fixed_at width s at → r ≡ r'
  read-le-one width s at e f = read-as-same number same (one e f)

module _ (s : List ℕ) (at : ℕ) where
  pub remaining-one : {r r' : ℕ} → r ≡ remaining_at s at → r' ≡ remaining_at s at → r ≡ r'
  remaining-one = one

  pub read-slice-one : (length : ℕ) {r r' : Result (Span × Cursor) Stop} → span_paper r ≡ slice_at length s at → span_paper r' ≡ slice_at length s at → r ≡ r'
  read-slice-one length e f = span_same (one e f)

  pub read-compact-size-one : {r r' : Result (ℕ × Cursor) Stop} → read_paper r ≡ compact_at s at → read_paper r' ≡ compact_at s at → r ≡ r'
  read-compact-size-one e f = read-same (one e f)

  pub read-compact-usize-one : (maximum : ℕ) {r r' : Result (ℕ × Cursor) Stop} → read_paper r ≡ compact_most maximum s at → read_paper r' ≡ compact_most maximum s at → r ≡ r'
  read-compact-usize-one maximum e f = read-same (one e f)

  pub read-bounded-one : (length maximum : ℕ) {r r' : Result (Span × Cursor) Stop} → span_paper r ≡ bounded_at length maximum s at → span_paper r' ≡ bounded_at length maximum s at → r ≡ r'
  read-bounded-one length maximum e f = span_same (one e f)

  pub read-varbytes-one : (maximum : ℕ) {r r' : Result (Span × Cursor) Stop} → span_paper r ≡ varbytes_at maximum s at → span_paper r' ≡ varbytes_at maximum s at → r ≡ r'
  read-varbytes-one maximum e f = span_same (one e f)

  pub read-array-one : (n : ℕ) {r r' : Result (List ℕ × Cursor) Stop} → read_paper r ≡ bytes_at n s at → read_paper r' ≡ bytes_at n s at → r ≡ r'
  read-array-one n e f = read-same (one e f)

  pub finish-one : {r r' : Result Cursor Stop} → moved_paper r ≡ finish_at s at → moved_paper r' ≡ finish_at s at → r ≡ r'
  finish-one e f = moved_same (one e f)

-- the answer to writing bs, and the whole of the buffer
abbrev Says : (at : ℕ) (bs d : List ℕ) → Result ℕ Refusal → List ℕ → Type 0
Says at bs d r d' = (put_paper r ≡ put_answer at bs d) × (d' ≡ laid at bs d)

module _ (at : ℕ) (d : List ℕ) {r r' : Result ℕ Refusal} {d₁ d₂ : List ℕ} where
  put_one : (bs : List ℕ) → Says at bs d r d₁ → Says at bs d r' d₂ → (r ≡ r') × (d₁ ≡ d₂)
  put_one bs e f = let w = one_each e f in (put_same w.0, w.1)

  pub put-le-one : (width v : ℕ) → Says at (bytes width v) d r d₁ → Says at (bytes width v) d r' d₂ → (r ≡ r') × (d₁ ≡ d₂)
  put-le-one width v = put_one (bytes width v)

  pub put-bytes-one : (v : List ℕ) → Says at v d r d₁ → Says at v d r' d₂ → (r ≡ r') × (d₁ ≡ d₂)
  put-bytes-one v = put_one v

  pub put-compact-size-one : (v : ℕ) → Says at (compact v) d r d₁ → Says at (compact v) d r' d₂ → (r ≡ r') × (d₁ ≡ d₂)
  put-compact-size-one v = put_one (compact v)

  pub put-varbytes-one : (v : List ℕ) → Says at (varbytes v) d r d₁ → Says at (varbytes v) d r' d₂ → (r ≡ r') × (d₁ ≡ d₂)
  put-varbytes-one v = put_one (varbytes v)

pub compact-size-len-one : (v : ℕ) {r r' : ℕ} → r ≡ compact_size v → r' ≡ compact_size v → r ≡ r'
compact-size-len-one v = one
