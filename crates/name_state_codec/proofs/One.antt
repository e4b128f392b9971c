-- Two results that meet a contract coincide, for each public function.
use mathlib.Core.Path.{◌≡◌}
use Prim.Native.Nat.{ℕ}
use mathlib.Core.List.{List}
use Rattle.std.specs.Prelude.{Result}
use Rattle.words.proofs.One.{one, one_each}
use Rattle.refusal.specs.Paper.{put_paper}
use Rattle.refusal.specs.declared.Refusal.{Refusal}
use Rattle.refusal.specs.declared.Stop.{Stop}
use Rattle.refusal.proofs.Same.{put_same}
use Rattle.encoding.specs.Paper.{read_paper}
use Rattle.encoding.specs.declared.read.Cursor.{Cursor}
use Rattle.encoding.proofs.Same.{read-same}
use Rattle.name_state.specs.Paper.{state_of}
use Rattle.name_state.specs.declared.NameState.{NameState}
use Rattle.name_state_codec.specs.Written.{checked_size, encode_answer, encode_content}
use Rattle.name_state_codec.specs.Read.{read_state}
use Rattle.name_state_codec.specs.Paper.{decoded}

pub decode-one : (key s : List ℕ) {r r' : Result (NameState × Cursor) Stop} → read_paper r ≡ decoded (read_state key s) → read_paper r' ≡ decoded (read_state key s) → r ≡ r'
decode-one key s e f = read-same (one e f)

pub encoded-size-one : (p : NameState) {r r' : Result ℕ Refusal} → put_paper r ≡ checked_size (state_of p) → put_paper r' ≡ checked_size (state_of p) → r ≡ r'
encoded-size-one p e f = put_same (one e f)

-- the answer, and the whole of the buffer
abbrev Says : NameState → List ℕ → Result ℕ Refusal → List ℕ → Type 0
Says p d r d' = (put_paper r ≡ encode_answer (state_of p) d) × (d' ≡ encode_content (state_of p) d)

pub encode_one : (p : NameState) (d : List ℕ) {r r' : Result ℕ Refusal} {d₁ d₂ : List ℕ} → Says p d r d₁ → Says p d r' d₂ → (r ≡ r') × (d₁ ≡ d₂)
encode_one p d e f = let w = one_each e f in (put_same w.0, w.1)
