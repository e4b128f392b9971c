-- Two results that meet a contract coincide, for each public function.
use mathlib.Core.Path.{◌≡◌}
use Prim.Native.Nat.{ℕ}
use mathlib.Core.Bool.{Bool}
use mathlib.Core.List.{List, [], ◌++◌}
use mathlib.Core.Option.{Option}
use Rattle.words.specs.Words.{bytes}
use Rattle.words.specs.Buffers.{pick, laid}
use Rattle.words.proofs.One.{one, one_each}
use Rattle.sha3.specs.Sha3.{sha3}
use Rattle.blake2b.specs.Blake2b.{blake2b}
use Rattle.refusal.specs.Outcome.{Outcome}
use Rattle.covenants.specs.Covenant.{Reading, skimmed, covenant_at, whole_covenant}
use Rattle.encoding.specs.Wire.{remaining_at, slice_at, bytes_at, fixed_at, compact_at, compact_most, bounded_at, varbytes_at, finish_at, compact, compact_size, varbytes, put_answer}
use Rattle.encoding.specs.Paper.{shown_bytes}
use Rattle.primitives.specs.Units.{sum_of, difference_of}
use Rattle.primitives.specs.Outpoints.{same_outpoint, is_null, outpoint_bytes, outpoint_at, shown_outpoint}
use Rattle.primitives.specs.declared.Outpoint.{Outpoint}
use Rattle.covenants.specs.Kind.{is_name, is_linked, is_unspendable}
use Rattle.covenants.specs.Written.{size_answer, encode_answer, encode_content}
use Rattle.covenants.specs.Items.{directory_item, seek_at, of_width, number_in}
use Rattle.runs.specs.Run.{run_said}
use Rattle.runs.specs.Covenants.{default_allowance, covenant_run, covenant_step}
use Rattle.covenants.specs.Paper as items
use Rattle.covenants.specs.Paper.{directory_of}
use Rattle.names.specs.Name.{valid_name, name_hash}
use Rattle.refusal.specs.Outcome.{refused_by}
use Rattle.names.specs.Paper.{shown_hash}
use Rattle.names.specs.Blind.{blind_of}
use Rattle.name_state.specs.State.{null, bitmap, binding, same_state}
use Rattle.name_state.specs.Paper.{state_of, stored, null_state, owner_of, class_of, class_number}
use Rattle.name_state.specs.declared.NameState.{NameState}
use Rattle.name_state_codec.specs.Written as states
use Rattle.name_state_codec.specs.Read.{read_state}
use Rattle.name_state_codec.specs.Paper.{shown_state}
use Rattle.sheets.specs.Sheet.{input_at, place_at, transaction_counts, coin_counts}
use Rattle.sheets.specs.Viewer.{view_of}
use Rattle.links.specs.Verify.{verify_of}
use Rattle.reports.specs.Link.{link_line}
use Rattle.reports.specs.Name.{name_line}
use Rattle.capi.specs.Amounts.{amount_flat}
use Rattle.capi.specs.declared.amounts.AmountAnswer.{AmountAnswer}
use Rattle.capi.specs.Linkage.{links_flat}
use Rattle.capi.specs.declared.linkage.LinksAnswer.{LinksAnswer}
use Rattle.capi.specs.Flat.{moved_flat, covenant_flat, write_flat}
use Rattle.capi.specs.States.{state_flat, owner_flat}
use Rattle.capi.specs.Sheet.{sheet_flat, output_flat, view_flat}
use Rattle.capi.specs.Reading.{number_flat, span_flat, outpoint_flat}
use Rattle.capi.specs.Items.{step_flat, run_flat, place_flat, item_flat}
use Rattle.capi.specs.Version.{version}
use Rattle.capi.specs.declared.FlatStop.{FlatStop}
use Rattle.capi.specs.declared.CovenantAnswer.{CovenantAnswer}
use Rattle.capi.specs.declared.WriteAnswer.{WriteAnswer}
use Rattle.capi.specs.declared.states.StateAnswer.{StateAnswer}
use Rattle.capi.specs.declared.states.OwnerAnswer.{OwnerAnswer}
use Rattle.capi.specs.declared.sheet.SheetAnswer.{SheetAnswer}
use Rattle.capi.specs.declared.sheet.PlaceAnswer.{PlaceAnswer}
use Rattle.capi.specs.declared.sheet.ViewAnswer.{ViewAnswer}
use Rattle.capi.specs.declared.wire.NumberAnswer.{NumberAnswer}
use Rattle.capi.specs.declared.wire.SpanAnswer.{SpanAnswer}
use Rattle.capi.specs.declared.wire.OutpointAnswer.{OutpointAnswer}
use Rattle.capi.specs.declared.items.StepAnswer.{StepAnswer}
use Rattle.capi.specs.declared.items.RunAnswer.{RunAnswer}
use Rattle.capi.specs.declared.items.ItemAnswer.{ItemAnswer}

pub turgamysk-version-one : {r r' : ℕ} → r ≡ version → r' ≡ version → r ≡ r'
turgamysk-version-one = one

pub turgamysk-sha3-256-one : (m : List ℕ) {d d' : List ℕ} → d ≡ sha3 m → d' ≡ sha3 m → d ≡ d'
turgamysk-sha3-256-one m = one

pub turgamysk-blake2b-256-one : (m : List ℕ) {d d' : List ℕ} → d ≡ blake2b m → d' ≡ blake2b m → d ≡ d'
turgamysk-blake2b-256-one m = one

pub turgamysk-blake2b-256-value-nonce-one : (value : ℕ) (nonce : List ℕ) {d d' : List ℕ} → d ≡ blake2b (bytes 8 value ++ nonce) → d' ≡ blake2b (bytes 8 value ++ nonce) → d ≡ d'
turgamysk-blake2b-256-value-nonce-one value nonce = one

pub turgamysk-covenant-read-one : (s : List ℕ) (at limit : ℕ) {r r' : CovenantAnswer} → r ≡ covenant_flat (skimmed (covenant_at limit s at)) → r' ≡ covenant_flat (skimmed (covenant_at limit s at)) → r ≡ r'
turgamysk-covenant-read-one s at limit = one

-- what is said of a covenant that is read with its directory: the answer, and both lent arrays
abbrev Says : Outcome Reading → CovenantAnswer → List ℕ → List ℕ → Type 0
Says o r starts lens = (r ≡ covenant_flat (skimmed o)) × (starts ≡ (directory_of o).starts) × (lens ≡ (directory_of o).lens)

said-one : (o : Outcome Reading) {r r' : CovenantAnswer} {a a' b b' : List ℕ} → Says o r a b → Says o r' a' b' → (r ≡ r') × (a ≡ a') × (b ≡ b')
said-one o e f = (one e.0 f.0, one e.1 f.1, one e.2 f.2)

pub turgamysk-covenant-decode-one : (s : List ℕ) {r r' : CovenantAnswer} {a a' b b' : List ℕ}
    → Says (whole_covenant s) r a b → Says (whole_covenant s) r' a' b' → (r ≡ r') × (a ≡ a') × (b ≡ b')
turgamysk-covenant-decode-one s = said-one (whole_covenant s)

pub turgamysk-covenant-decode-from-one : (s : List ℕ) (at limit : ℕ) {r r' : CovenantAnswer} {a a' b b' : List ℕ}
    → Says (covenant_at limit s at) r a b → Says (covenant_at limit s at) r' a' b' → (r ≡ r') × (a ≡ a') × (b ≡ b')
turgamysk-covenant-decode-from-one s at limit = said-one (covenant_at limit s at)

pub turgamysk-covenant-encode-one : (kind : ℕ) (source starts lens : List ℕ) (count : ℕ) (d : List ℕ) {r r' : WriteAnswer} {d₁ d₂ : List ℕ}
    → (r ≡ write_flat (encode_answer kind source starts lens count d)) × (d₁ ≡ encode_content kind source starts lens count d)
    → (r' ≡ write_flat (encode_answer kind source starts lens count d)) × (d₂ ≡ encode_content kind source starts lens count d) → (r ≡ r') × (d₁ ≡ d₂)
turgamysk-covenant-encode-one kind source starts lens count d = one_each

-- ---- names and name states

pub turgamysk-validate-name-one : (name : List ℕ) {r r' : ℕ} → r ≡ pick (valid_name name) 0 6 → r' ≡ pick (valid_name name) 0 6 → r ≡ r'
turgamysk-validate-name-one name = one

pub turgamysk-hash-name-one : (name : List ℕ) {r r' : ℕ} {d d' : List ℕ}
    → (r ≡ refused_by (name_hash name)) × (d ≡ (shown_hash (name_hash name)).1) → (r' ≡ refused_by (name_hash name)) × (d' ≡ (shown_hash (name_hash name)).1) → (r ≡ r') × (d ≡ d')
turgamysk-hash-name-one name = one_each

pub turgamysk-blind-bid-one : (value : ℕ) (nonce : List ℕ) {d d' : List ℕ} → d ≡ blind_of value nonce → d' ≡ blind_of value nonce → d ≡ d'
turgamysk-blind-bid-one value nonce = one

pub turgamysk-name-state-decode-one : (key s : List ℕ) {r r' : StateAnswer} → r ≡ state_flat (shown_state (read_state key s)) → r' ≡ state_flat (shown_state (read_state key s)) → r ≡ r'
turgamysk-name-state-decode-one key s = one

pub turgamysk-name-state-null-one : (key : List ℕ) {r r' : NameState} → r ≡ stored (null_state key []) → r' ≡ stored (null_state key []) → r ≡ r'
turgamysk-name-state-null-one key = one

module _ (p : NameState) where
  pub turgamysk-name-state-encode-one : (d : List ℕ) {r r' : WriteAnswer} {d₁ d₂ : List ℕ}
      → (r ≡ write_flat (states.encode_answer (state_of p) d)) × (d₁ ≡ states.encode_content (state_of p) d)
      → (r' ≡ write_flat (states.encode_answer (state_of p) d)) × (d₂ ≡ states.encode_content (state_of p) d) → (r ≡ r') × (d₁ ≡ d₂)
  turgamysk-name-state-encode-one d = one_each

  pub turgamysk-name-state-encoded-size-one : {r r' : WriteAnswer} → r ≡ write_flat (states.checked_size (state_of p)) → r' ≡ write_flat (states.checked_size (state_of p)) → r ≡ r'
  turgamysk-name-state-encoded-size-one = one

  pub turgamysk-name-state-class-one : {r r' : ℕ} → r ≡ class_number (class_of (state_of p)) → r' ≡ class_number (class_of (state_of p)) → r ≡ r'
  turgamysk-name-state-class-one = one

  pub turgamysk-name-state-owner-outpoint-one : {r r' : OwnerAnswer} → r ≡ owner_flat (owner_of (state_of p)) → r' ≡ owner_flat (owner_of (state_of p)) → r ≡ r'
  turgamysk-name-state-owner-outpoint-one = one

  pub turgamysk-name-state-bitmap-one : {r r' : ℕ} → r ≡ bitmap (state_of p) → r' ≡ bitmap (state_of p) → r ≡ r'
  turgamysk-name-state-bitmap-one = one

  pub turgamysk-name-state-validate-key-binding-one : {r r' : ℕ} → r ≡ refused_by (binding (state_of p)) → r' ≡ refused_by (binding (state_of p)) → r ≡ r'
  turgamysk-name-state-validate-key-binding-one = one

  pub turgamysk-name-state-is-null-one : {r r' : Bool} → r ≡ null (state_of p) → r' ≡ null (state_of p) → r ≡ r'
  turgamysk-name-state-is-null-one = one

  pub turgamysk-name-state-same-one : (q : NameState) {r r' : Bool} → r ≡ same_state (state_of p) (state_of q) → r' ≡ same_state (state_of p) (state_of q) → r ≡ r'
  turgamysk-name-state-same-one q = one

-- ---- sheets

pub turgamysk-judge-transaction-one : (s : List ℕ) {r r' : SheetAnswer} → r ≡ sheet_flat (transaction_counts s) → r' ≡ sheet_flat (transaction_counts s) → r ≡ r'
turgamysk-judge-transaction-one s = one

pub turgamysk-judge-coins-one : (s : List ℕ) {r r' : SheetAnswer} → r ≡ sheet_flat (coin_counts s) → r' ≡ sheet_flat (coin_counts s) → r ≡ r'
turgamysk-judge-coins-one s = one

pub turgamysk-sheet-input-at-one : (s : List ℕ) (at : ℕ) {r r' : OutpointAnswer} → r ≡ outpoint_flat (shown_outpoint (input_at s at)) → r' ≡ outpoint_flat (shown_outpoint (input_at s at)) → r ≡ r'
turgamysk-sheet-input-at-one s at = one

pub turgamysk-sheet-place-at-one : (s : List ℕ) (at side : ℕ) {r r' : PlaceAnswer} → r ≡ output_flat (place_at side s at) → r' ≡ output_flat (place_at side s at) → r ≡ r'
turgamysk-sheet-place-at-one s at side = one

pub turgamysk-view-item-one : (tx coins : List ℕ) (side index item : ℕ) {r r' : ViewAnswer} → r ≡ view_flat (view_of tx coins side index item) → r' ≡ view_flat (view_of tx coins side index item) → r ≡ r'
turgamysk-view-item-one tx coins side index item = one

-- ---- reads

module _ (s : List ℕ) (at : ℕ) where
  pub turgamysk-remaining-one : {r r' : ℕ} → r ≡ remaining_at s at → r' ≡ remaining_at s at → r ≡ r'
  turgamysk-remaining-one = one

  pub turgamysk-read-u8-one : {r r' : NumberAnswer} → r ≡ number_flat (fixed_at 1 s at) → r' ≡ number_flat (fixed_at 1 s at) → r ≡ r'
  turgamysk-read-u8-one = one

  pub turgamysk-read-u16-le-one : {r r' : NumberAnswer} → r ≡ number_flat (fixed_at 2 s at) → r' ≡ number_flat (fixed_at 2 s at) → r ≡ r'
  turgamysk-read-u16-le-one = one

  pub turgamysk-read-u32-le-one : {r r' : NumberAnswer} → r ≡ number_flat (fixed_at 4 s at) → r' ≡ number_flat (fixed_at 4 s at) → r ≡ r'
  turgamysk-read-u32-le-one = one

  pub turgamysk-read-u64-le-one : {r r' : NumberAnswer} → r ≡ number_flat (fixed_at 8 s at) → r' ≡ number_flat (fixed_at 8 s at) → r ≡ r'
  turgamysk-read-u64-le-one = one

  pub turgamysk-read-compact-size-one : {r r' : NumberAnswer} → r ≡ number_flat (compact_at s at) → r' ≡ number_flat (compact_at s at) → r ≡ r'
  turgamysk-read-compact-size-one = one

  pub turgamysk-read-compact-usize-one : (maximum : ℕ) {r r' : NumberAnswer} → r ≡ number_flat (compact_most maximum s at) → r' ≡ number_flat (compact_most maximum s at) → r ≡ r'
  turgamysk-read-compact-usize-one maximum = one

  pub turgamysk-read-slice-one : (size : ℕ) {r r' : SpanAnswer} → r ≡ span_flat (slice_at size s at) → r' ≡ span_flat (slice_at size s at) → r ≡ r'
  turgamysk-read-slice-one size = one

  pub turgamysk-read-bounded-one : (size maximum : ℕ) {r r' : SpanAnswer} → r ≡ span_flat (bounded_at size maximum s at) → r' ≡ span_flat (bounded_at size maximum s at) → r ≡ r'
  turgamysk-read-bounded-one size maximum = one

  pub turgamysk-read-varbytes-one : (maximum : ℕ) {r r' : SpanAnswer} → r ≡ span_flat (varbytes_at maximum s at) → r' ≡ span_flat (varbytes_at maximum s at) → r ≡ r'
  turgamysk-read-varbytes-one maximum = one

  pub turgamysk-read-array-one : {r r' : FlatStop} {a a' : List ℕ}
      → (r ≡ moved_flat (shown_bytes 32 (bytes_at 32 s at)).0) × (a ≡ (shown_bytes 32 (bytes_at 32 s at)).1)
      → (r' ≡ moved_flat (shown_bytes 32 (bytes_at 32 s at)).0) × (a' ≡ (shown_bytes 32 (bytes_at 32 s at)).1) → (r ≡ r') × (a ≡ a')
  turgamysk-read-array-one = one_each

  pub turgamysk-finish-one : {r r' : FlatStop} → r ≡ moved_flat (finish_at s at) → r' ≡ moved_flat (finish_at s at) → r ≡ r'
  turgamysk-finish-one = one

  pub turgamysk-outpoint-decode-one : {r r' : OutpointAnswer} → r ≡ outpoint_flat (shown_outpoint (outpoint_at s at)) → r' ≡ outpoint_flat (shown_outpoint (outpoint_at s at)) → r ≡ r'
  turgamysk-outpoint-decode-one = one

-- ---- writes

-- the answer to writing bs, and the whole of the buffer
abbrev Puts : (at : ℕ) (bs d : List ℕ) → WriteAnswer → List ℕ → Type 0
Puts at bs d r d' = (r ≡ write_flat (put_answer at bs d)) × (d' ≡ laid at bs d)

module _ (at : ℕ) (d : List ℕ) {r r' : WriteAnswer} {d₁ d₂ : List ℕ} where
  pub turgamysk-put-u8-one : (v : ℕ) → Puts at (bytes 1 v) d r d₁ → Puts at (bytes 1 v) d r' d₂ → (r ≡ r') × (d₁ ≡ d₂)
  turgamysk-put-u8-one v = one_each

  pub turgamysk-put-u16-le-one : (v : ℕ) → Puts at (bytes 2 v) d r d₁ → Puts at (bytes 2 v) d r' d₂ → (r ≡ r') × (d₁ ≡ d₂)
  turgamysk-put-u16-le-one v = one_each

  pub turgamysk-put-u32-le-one : (v : ℕ) → Puts at (bytes 4 v) d r d₁ → Puts at (bytes 4 v) d r' d₂ → (r ≡ r') × (d₁ ≡ d₂)
  turgamysk-put-u32-le-one v = one_each

  pub turgamysk-put-u64-le-one : (v : ℕ) → Puts at (bytes 8 v) d r d₁ → Puts at (bytes 8 v) d r' d₂ → (r ≡ r') × (d₁ ≡ d₂)
  turgamysk-put-u64-le-one v = one_each

  pub turgamysk-put-bytes-one : (v : List ℕ) → Puts at v d r d₁ → Puts at v d r' d₂ → (r ≡ r') × (d₁ ≡ d₂)
  turgamysk-put-bytes-one v = one_each

  pub turgamysk-put-compact-size-one : (v : ℕ) → Puts at (compact v) d r d₁ → Puts at (compact v) d r' d₂ → (r ≡ r') × (d₁ ≡ d₂)
  turgamysk-put-compact-size-one v = one_each

  pub turgamysk-put-varbytes-one : (v : List ℕ) → Puts at (varbytes v) d r d₁ → Puts at (varbytes v) d r' d₂ → (r ≡ r') × (d₁ ≡ d₂)
  turgamysk-put-varbytes-one v = one_each

pub turgamysk-compact-size-len-one : (v : ℕ) {r r' : ℕ} → r ≡ compact_size v → r' ≡ compact_size v → r ≡ r'
turgamysk-compact-size-len-one v = one

-- ---- amounts

module _ (a b : ℕ) where
  abbrev Sum : AmountAnswer
  Sum = amount_flat (sum_of (record { 0 = a }) (record { 0 = b }))

  pub turgamysk-checked-add-one : {r r' : AmountAnswer} → r ≡ Sum → r' ≡ Sum → r ≡ r'
  turgamysk-checked-add-one = one

  abbrev Difference : AmountAnswer
  Difference = amount_flat (difference_of (record { 0 = a }) (record { 0 = b }))

  pub turgamysk-checked-sub-one : {r r' : AmountAnswer} → r ≡ Difference → r' ≡ Difference → r ≡ r'
  turgamysk-checked-sub-one = one

-- ---- outpoints

module _ (a : Outpoint) where
  pub turgamysk-outpoint-encode-one : {e e' : List ℕ} → e ≡ outpoint_bytes a → e' ≡ outpoint_bytes a → e ≡ e'
  turgamysk-outpoint-encode-one = one

  pub turgamysk-outpoint-same-one : (b : Outpoint) {r r' : Bool} → r ≡ same_outpoint a b → r' ≡ same_outpoint a b → r ≡ r'
  turgamysk-outpoint-same-one b = one

  pub turgamysk-outpoint-is-null-one : {r r' : Bool} → r ≡ is_null a → r' ≡ is_null a → r ≡ r'
  turgamysk-outpoint-is-null-one = one

-- ---- runs, items and kinds

module _ (s : List ℕ) (at count : ℕ) {r r' : StepAnswer} where
  pub turgamysk-covenant-run-next-one : r ≡ step_flat (covenant_step default_allowance s at count) → r' ≡ step_flat (covenant_step default_allowance s at count) → r ≡ r'
  turgamysk-covenant-run-next-one = one

  pub turgamysk-covenant-run-next-with-limit-one : (limit : ℕ) → r ≡ step_flat (covenant_step limit s at count) → r' ≡ step_flat (covenant_step limit s at count) → r ≡ r'
  turgamysk-covenant-run-next-with-limit-one limit = one

module _ (s : List ℕ) {r r' : RunAnswer} where
  pub turgamysk-covenant-read-run-one : r ≡ run_flat (run_said (covenant_run default_allowance s)) → r' ≡ run_flat (run_said (covenant_run default_allowance s)) → r ≡ r'
  turgamysk-covenant-read-run-one = one

  pub turgamysk-covenant-read-run-with-limit-one : (limit : ℕ) → r ≡ run_flat (run_said (covenant_run limit s)) → r' ≡ run_flat (run_said (covenant_run limit s)) → r ≡ r'
  turgamysk-covenant-read-run-with-limit-one limit = one

  pub turgamysk-covenant-import-archive-one : r ≡ run_flat (run_said (covenant_run default_allowance s)) → r' ≡ run_flat (run_said (covenant_run default_allowance s)) → r ≡ r'
  turgamysk-covenant-import-archive-one = one

pub turgamysk-covenant-find-one : (s : List ℕ) (at index : ℕ) {r r' : ViewAnswer} → r ≡ place_flat (seek_at s at index) → r' ≡ place_flat (seek_at s at index) → r ≡ r'
turgamysk-covenant-find-one s at index = one

module _ (source starts lens : List ℕ) (count : ℕ) where
  pub turgamysk-covenant-encoded-size-one : {r r' : WriteAnswer} → r ≡ write_flat (size_answer source starts lens count) → r' ≡ write_flat (size_answer source starts lens count) → r ≡ r'
  turgamysk-covenant-encoded-size-one = one

  module _ (index : ℕ) where
    abbrev Item : Option (ℕ × ℕ)
    Item = directory_item source starts lens count index

    pub turgamysk-covenant-item-one : {r r' : ViewAnswer} → r ≡ place_flat Item → r' ≡ place_flat Item → r ≡ r'
    turgamysk-covenant-item-one = one

    pub turgamysk-covenant-item-u8-one : {r r' : ItemAnswer} → r ≡ item_flat (number_in 1 source Item) → r' ≡ item_flat (number_in 1 source Item) → r ≡ r'
    turgamysk-covenant-item-u8-one = one

    pub turgamysk-covenant-item-u32-one : {r r' : ItemAnswer} → r ≡ item_flat (number_in 4 source Item) → r' ≡ item_flat (number_in 4 source Item) → r ≡ r'
    turgamysk-covenant-item-u32-one = one

    pub turgamysk-covenant-item-u64-one : {r r' : ItemAnswer} → r ≡ item_flat (number_in 8 source Item) → r' ≡ item_flat (number_in 8 source Item) → r ≡ r'
    turgamysk-covenant-item-u64-one = one

    pub turgamysk-covenant-item-name-hash-one : {r r' : Bool} {h h' : List ℕ}
        → (r ≡ (items.shown_item_hash (of_width 32 source Item)).0) × (h ≡ (items.shown_item_hash (of_width 32 source Item)).1)
        → (r' ≡ (items.shown_item_hash (of_width 32 source Item)).0) × (h' ≡ (items.shown_item_hash (of_width 32 source Item)).1) → (r ≡ r') × (h ≡ h')
    turgamysk-covenant-item-name-hash-one = one_each

module _ (kind : ℕ) where
  pub turgamysk-is-name-one : {r r' : Bool} → r ≡ is_name kind → r' ≡ is_name kind → r ≡ r'
  turgamysk-is-name-one = one

  pub turgamysk-is-linked-one : {r r' : Bool} → r ≡ is_linked kind → r' ≡ is_linked kind → r ≡ r'
  turgamysk-is-linked-one = one

  pub turgamysk-is-unspendable-one : {r r' : Bool} → r ≡ is_unspendable kind → r' ≡ is_unspendable kind → r ≡ r'
  turgamysk-is-unspendable-one = one

pub turgamysk-verify-covenant-links-one : (tx coins : List ℕ) {r r' : LinksAnswer} → r ≡ links_flat (verify_of tx coins) → r' ≡ links_flat (verify_of tx coins) → r ≡ r'
turgamysk-verify-covenant-links-one tx coins = one

-- ---- report lines

module _ (out : List ℕ) {r r' : WriteAnswer} {d₁ d₂ : List ℕ} where
  pub turgamysk-link-line-one : (tx coins : List ℕ) → Puts 0 (link_line tx coins) out r d₁ → Puts 0 (link_line tx coins) out r' d₂ → (r ≡ r') × (d₁ ≡ d₂)
  turgamysk-link-line-one tx coins = one_each

  pub turgamysk-name-line-one : (file : List ℕ) → Puts 0 (name_line file) out r d₁ → Puts 0 (name_line file) out r' d₂ → (r ≡ r') × (d₁ ≡ d₂)
  turgamysk-name-line-one file = one_each
