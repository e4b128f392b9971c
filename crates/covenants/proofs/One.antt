-- Two results that meet a contract coincide, for each public function.
use mathlib.Core.Path.{◌≡◌, ap₂}
use Prim.Native.Nat.{ℕ}
use mathlib.Core.Bool.{Bool}
use mathlib.Core.List.{List}
use Rattle.std.specs.Prelude as code
use Rattle.std.specs.Prelude.{Result}
use Rattle.words.proofs.One.{one, one_each}
use Rattle.refusal.specs.Outcome.{Outcome}
use Rattle.refusal.specs.Paper.{put_paper}
use Rattle.refusal.specs.declared.Refusal.{Refusal}
use Rattle.refusal.specs.declared.Stop.{Stop}
use Rattle.refusal.proofs.Same.{put_same}
use Rattle.encoding.specs.declared.read.Cursor.{Cursor}
use Rattle.encoding.specs.declared.read.Span.{Span}
use Rattle.primitives.specs.declared.NameHash.{NameHash}
use Rattle.covenants.specs.Kind.{is_name, is_linked, is_unspendable}
use Rattle.covenants.specs.Covenant.{max_encoded_size, Reading, covenant_at, whole_covenant, skimmed}
use Rattle.covenants.specs.Written.{size_answer, encode_answer, encode_content, table_size, table_answer, table_content}
use Rattle.covenants.specs.Items.{directory_item, seek_at, of_width, number_in}
use Rattle.covenants.specs.Paper.{covenant_paper, directory_of, decoded_paper, decoded, spot_paper, number_paper, name_hash_paper}
use Rattle.covenants.proofs.Same.{covenant-same, decoded-same, spot-same, number-same, name-hash-same}
use Rattle.covenants.specs.declared.Accepted.{Accepted}
use Rattle.covenants.specs.declared.decode.Decoded.{Decoded}

-- ---- kinds

pub is-name-one : (kind : ℕ) {r r' : Bool} → r ≡ is_name kind → r' ≡ is_name kind → r ≡ r'
is-name-one kind = one

pub is-linked-one : (kind : ℕ) {r r' : Bool} → r ≡ is_linked kind → r' ≡ is_linked kind → r ≡ r'
is-linked-one kind = one

pub is-unspendable-one : (kind : ℕ) {r r' : Bool} → r ≡ is_unspendable kind → r' ≡ is_unspendable kind → r ≡ r'
is-unspendable-one kind = one

-- ---- reading

pub read_one : (limit : ℕ) (s : List ℕ) (at : ℕ) {r r' : Result (Accepted × Cursor) Stop} → covenant_paper r ≡ skimmed (covenant_at limit s at) → covenant_paper r' ≡ skimmed (covenant_at limit s at) → r ≡ r'
read_one limit s at e f = covenant-same (one e f)

pub decode-from-with-limit-one : (limit : ℕ) (s : List ℕ) (at : ℕ) {d d' : Result (Decoded × Cursor) Stop} → decoded_paper d ≡ decoded (covenant_at limit s at) → decoded_paper d' ≡ decoded (covenant_at limit s at) → d ≡ d'
decode-from-with-limit-one limit s at e f = decoded-same (one e f)

pub decode-from-one : (s : List ℕ) (at : ℕ) {d d' : Result (Decoded × Cursor) Stop} → decoded_paper d ≡ decoded (covenant_at max_encoded_size s at) → decoded_paper d' ≡ decoded (covenant_at max_encoded_size s at) → d ≡ d'
decode-from-one s at e f = decoded-same (one e f)

pub decode-one : (s : List ℕ) {d d' : Result (Decoded × Cursor) Stop} → decoded_paper d ≡ decoded (whole_covenant s) → decoded_paper d' ≡ decoded (whole_covenant s) → d ≡ d'
decode-one s e f = decoded-same (one e f)

-- what a decoder into lent arrays says: the answer, and both arrays
abbrev Lends : Outcome Reading → Result (Accepted × Cursor) Stop → List ℕ → List ℕ → Type 0
Lends o r starts lens = (covenant_paper r ≡ skimmed o) × (starts ≡ (directory_of o).starts) × (lens ≡ (directory_of o).lens)

lends_one : (o : Outcome Reading) {r r' : Result (Accepted × Cursor) Stop} {a a' b b' : List ℕ} → Lends o r a b → Lends o r' a' b' → (r ≡ r') × (a ≡ a') × (b ≡ b')
lends_one o e f = (covenant-same (one e.0 f.0), one e.1 f.1, one e.2 f.2)

pub decode-from-into-one : (limit : ℕ) (s : List ℕ) (at : ℕ) {r r' : Result (Accepted × Cursor) Stop} {a a' b b' : List ℕ} → Lends (covenant_at limit s at) r a b → Lends (covenant_at limit s at) r' a' b' → (r ≡ r') × (a ≡ a') × (b ≡ b')
decode-from-into-one limit s at = lends_one (covenant_at limit s at)

pub decode-into-one : (s : List ℕ) {r r' : Result (Accepted × Cursor) Stop} {a a' b b' : List ℕ} → Lends (whole_covenant s) r a b → Lends (whole_covenant s) r' a' b' → (r ≡ r') × (a ≡ a') × (b ≡ b')
decode-into-one s = lends_one (whole_covenant s)

-- ---- an item at a width

-- a number of a type of encoding's trait, which is one number and of which it is the only one
module _ {T : Type 0} (number : T → ℕ) (same : (x y : T) → number x ≡ number y → x ≡ y) (s : List ℕ) where
  pub as-number-one : (width : ℕ) (item : code.Option Span) {r r' : code.Option T} → number_paper number r ≡ number_in width s (spot_paper item) → number_paper number r' ≡ number_in width s (spot_paper item) → r ≡ r'
  as-number-one width item e f = number-same number same (one e f)

  pub item-number-one : (width : ℕ) (starts lens : List ℕ) (count index : ℕ) {r r' : code.Option T} → number_paper number r ≡ number_in width s (directory_item s starts lens count index)
      → number_paper number r' ≡ number_in width s (directory_item s starts lens count index) → r ≡ r'
  item-number-one width starts lens count index e f = number-same number same (one e f)

pub as-name-hash-one : (s : List ℕ) (item : code.Option Span) {r r' : code.Option NameHash} → name_hash_paper r ≡ of_width 32 s (spot_paper item) → name_hash_paper r' ≡ of_width 32 s (spot_paper item) → r ≡ r'
as-name-hash-one s item e f = name-hash-same (one e f)

pub find-one : (s : List ℕ) (at index : ℕ) {r r' : code.Option Span} → spot_paper r ≡ seek_at s at index → spot_paper r' ≡ seek_at s at index → r ≡ r'
find-one s at index e f = spot-same (one e f)

pub find-two-one : (s : List ℕ) (at : ℕ) {r r' : code.Option Span × code.Option Span} → (spot_paper r.0 ≡ seek_at s at 0) × (spot_paper r.1 ≡ seek_at s at 1)
    → (spot_paper r'.0 ≡ seek_at s at 0) × (spot_paper r'.1 ≡ seek_at s at 1) → r ≡ r'
find-two-one s at e f = let w = one_each e f in ap₂ (λ x y. (x, y)) (spot-same w.0) (spot-same w.1)

-- ---- over a directory

module _ (source starts lens : List ℕ) (count index : ℕ) where
  pub item-one : {r r' : code.Option Span} → spot_paper r ≡ directory_item source starts lens count index → spot_paper r' ≡ directory_item source starts lens count index → r ≡ r'
  item-one e f = spot-same (one e f)

  pub item-name-hash-one : {r r' : code.Option NameHash} → name_hash_paper r ≡ of_width 32 source (directory_item source starts lens count index) → name_hash_paper r' ≡ of_width 32 source (directory_item source starts lens count index) → r ≡ r'
  item-name-hash-one e f = name-hash-same (one e f)

module _ (source starts lens : List ℕ) (count : ℕ) where
  pub encoded-size-one : {r r' : Result ℕ Refusal} → put_paper r ≡ size_answer source starts lens count → put_paper r' ≡ size_answer source starts lens count → r ≡ r'
  encoded-size-one e f = put_same (one e f)

  -- the answer to writing the covenant, and the whole of the buffer
  abbrev Says : (kind : ℕ) (d : List ℕ) → Result ℕ Refusal → List ℕ → Type 0
  Says kind d r d' = (put_paper r ≡ encode_answer kind source starts lens count d) × (d' ≡ encode_content kind source starts lens count d)

  pub directory-encode-one : (kind : ℕ) (d : List ℕ) {r r' : Result ℕ Refusal} {d₁ d₂ : List ℕ} → Says kind d r d₁ → Says kind d r' d₂ → (r ≡ r') × (d₁ ≡ d₂)
  directory-encode-one kind d e f = let w = one_each e f in (put_same w.0, w.1)

-- ---- over a table

module _ (source starts lens : List ℕ) (first count : ℕ) where
  pub size-one : {r r' : Result ℕ Refusal} → put_paper r ≡ table_size source starts lens first count → put_paper r' ≡ table_size source starts lens first count → r ≡ r'
  size-one e f = put_same (one e f)

  abbrev SaysFrom : (at kind : ℕ) (d : List ℕ) → Result ℕ Refusal → List ℕ → Type 0
  SaysFrom at kind d r d' = (put_paper r ≡ table_answer at kind source starts lens first count d) × (d' ≡ table_content at kind source starts lens first count d)

  pub table-encode-one : (at kind : ℕ) (d : List ℕ) {r r' : Result ℕ Refusal} {d₁ d₂ : List ℕ} → SaysFrom at kind d r d₁ → SaysFrom at kind d r' d₂ → (r ≡ r') × (d₁ ≡ d₂)
  table-encode-one at kind d e f = let w = one_each e f in (put_same w.0, w.1)
