-- Two results that meet a contract coincide, for each public function.
use mathlib.Core.Path.{◌≡◌}
use mathlib.Core.List.{List}
use Prim.Native.Nat.{ℕ}
use Rattle.std.specs.Prelude.{Result}
use Rattle.words.specs.Buffers.{laid}
use Rattle.words.proofs.One.{one_each}
use Rattle.encoding.specs.Wire.{put_answer}
use Rattle.refusal.specs.Paper.{put_paper}
use Rattle.refusal.specs.declared.Refusal.{Refusal}
use Rattle.refusal.proofs.Same.{put_same}
use Rattle.reports.specs.Name.{name_line}
use Rattle.reports.specs.Link.{link_line}

-- the answer, and the whole of the buffer, for a line
abbrev Says : List ℕ → List ℕ → Result ℕ Refusal → List ℕ → Type 0
Says line out r out' = (put_paper r ≡ put_answer 0 line out) × (out' ≡ laid 0 line out)

line-one : (line out : List ℕ) {r r' : Result ℕ Refusal} {o o' : List ℕ} → Says line out r o → Says line out r' o' → (r ≡ r') × (o ≡ o')
line-one line out e f = let w = one_each e f in (put_same w.0, w.1)

pub name-line-one : (file out : List ℕ) {r r' : Result ℕ Refusal} {o o' : List ℕ} → Says (name_line file) out r o → Says (name_line file) out r' o' → (r ≡ r') × (o ≡ o')
name-line-one file out = line-one (name_line file) out

pub link-line-one : (tx coins out : List ℕ) {r r' : Result ℕ Refusal} {o o' : List ℕ} → Says (link_line tx coins) out r o → Says (link_line tx coins) out r' o' → (r ≡ r') × (o ≡ o')
link-line-one tx coins out = line-one (link_line tx coins) out
