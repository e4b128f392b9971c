-- The reader that holds the lent slice: document 01, "Forms to change".
use Rattle.std.specs.Prelude.{ℕ, List}
use Rattle.refusal.specs.Outcome.{position_of, Outcome, ok, err, then}
use Rattle.encoding.specs.Wire.{compact_most, slice_at, finish_at}
use Rattle.decoder.specs.declared.Decoder.{Decoder}

-- "A refused read .. also returns the position where the Rust's `Decoder` then stands"; one that was not refused stands
-- after what it read
abbrev pub stands : {A : Type 0} → Outcome A → ℕ
stands (ok a next) = next
stands (err k vs p) = position_of p

-- the decoder after a read: the same slice at the same place, and the position in the read's outcome
abbrev pub decoder_after : {A : Type 0} → Decoder → Outcome A → Decoder
decoder_after d o = record { input = d.input; position = stands o }

-- the whole input is a compact size of at most maximum and as many bytes: where they stand. Three reads in a row, and
-- the first refusal is the answer
unfoldable pub whole_varbytes : ℕ → List ℕ → Outcome (ℕ × ℕ)
whole_varbytes maximum s = then (compact_most maximum s 0) (λ n next. then (slice_at n s next) (λ part end. then (finish_at s end) (λ _ at. ok part at)))
