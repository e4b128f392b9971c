-- Two results that meet a contract coincide, for each public function. A decoder that is lent is one of the results.
use mathlib.Core.Path.{◌≡◌, ap, sym, ◌∙◌}
use Prim.Native.Nat.{ℕ}
use mathlib.Core.List.{List}
use denote.Ref.{Bor}
use Rattle.std.specs.Prelude.{Result}
use Rattle.words.proofs.One.{one}
use Rattle.refusal.specs.declared.Stop.{Stop}
use Rattle.encoding.specs.Wire.{compact_most, slice_at, finish_at}
use Rattle.encoding.specs.Paper.{read_paper, span_paper, moved_paper}
use Rattle.encoding.proofs.Same.{read-same, span_same, moved_same}
use Rattle.encoding.specs.declared.read.Cursor.{Cursor}
use Rattle.encoding.specs.declared.read.Span.{Span}
use Rattle.decoder.specs.declared.Decoder.{Decoder}
use Rattle.decoder.specs.Held.{decoder_after, whole_varbytes}

pub new-one : (input : Bor (List ℕ)) {r r' : Decoder} → (r.input ≡ input) × (r.position ≡ 0) → (r'.input ≡ input) × (r'.position ≡ 0) → r ≡ r'
new-one input e f i = record { input = one e.0 f.0 i; position = one e.1 f.1 i }

module _ (d : Decoder) where
  pub read-compact-usize-one : (maximum : ℕ) {r r' : Result (ℕ × Cursor) Stop} {d₁ d₂ : Decoder}
      → (read_paper r ≡ compact_most maximum d.input.now d.position) × (d₁ ≡ decoder_after d (read_paper r))
      → (read_paper r' ≡ compact_most maximum d.input.now d.position) × (d₂ ≡ decoder_after d (read_paper r')) → (r ≡ r') × (d₁ ≡ d₂)
  read-compact-usize-one maximum e f = let p = one e.0 f.0 in (read-same p, e.1 ∙ ap (decoder_after d) p ∙ sym f.1)

  pub read-slice-one : (length : ℕ) {r r' : Result (Span × Cursor) Stop} {d₁ d₂ : Decoder}
      → (span_paper r ≡ slice_at length d.input.now d.position) × (d₁ ≡ decoder_after d (span_paper r))
      → (span_paper r' ≡ slice_at length d.input.now d.position) × (d₂ ≡ decoder_after d (span_paper r')) → (r ≡ r') × (d₁ ≡ d₂)
  read-slice-one length e f = let p = one e.0 f.0 in (span_same p, e.1 ∙ ap (decoder_after d) p ∙ sym f.1)

  pub finish-one : {r r' : Result Cursor Stop} → moved_paper r ≡ finish_at d.input.now d.position → moved_paper r' ≡ finish_at d.input.now d.position → r ≡ r'
  finish-one e f = moved_same (one e f)

pub whole-varbytes-one : (maximum : ℕ) (input : List ℕ) {r r' : Result (Span × Cursor) Stop} → span_paper r ≡ whole_varbytes maximum input → span_paper r' ≡ whole_varbytes maximum input → r ≡ r'
whole-varbytes-one maximum input e f = span_same (one e f)
