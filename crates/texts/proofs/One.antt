-- Two results that meet a contract coincide, for each public function.
use mathlib.Core.Path.{◌≡◌}
use mathlib.Core.List.{List, ◌++◌}
use Prim.Native.Nat.{ℕ}
use lib.ListN.{length}
use Rattle.words.specs.Buffers.{laid}
use Rattle.words.proofs.One.{one_each}
use Rattle.texts.specs.Text.{decimal, refused_line, end_of}

pub put-text-one : (d : List ℕ) (at : ℕ) (s : List ℕ) {r r' : ℕ} {d₁ d₂ : List ℕ} → (r ≡ end_of at s (length d)) × (d₁ ≡ laid at s d) → (r' ≡ end_of at s (length d)) × (d₂ ≡ laid at s d) → (r ≡ r') × (d₁ ≡ d₂)
put-text-one d at s = one_each

pub put-number-one : (d : List ℕ) (at n : ℕ) {r r' : ℕ} {d₁ d₂ : List ℕ} → (r ≡ end_of at (decimal n) (length d)) × (d₁ ≡ laid at (decimal n) d) → (r' ≡ end_of at (decimal n) (length d)) × (d₂ ≡ laid at (decimal n) d) → (r ≡ r') × (d₁ ≡ d₂)
put-number-one d at n = one_each

pub put-field-one : (d : List ℕ) (at : ℕ) (label : List ℕ) (n : ℕ) {r r' : ℕ} {d₁ d₂ : List ℕ} → (r ≡ end_of at (label ++ decimal n) (length d)) × (d₁ ≡ laid at (label ++ decimal n) d) → (r' ≡ end_of at (label ++ decimal n) (length d)) × (d₂ ≡ laid at (label ++ decimal n) d) → (r ≡ r') × (d₁ ≡ d₂)
put-field-one d at label n = one_each

pub put-refused-one : (d : List ℕ) (number : ℕ) {r r' : ℕ} {d₁ d₂ : List ℕ} → (r ≡ end_of 0 (refused_line number) (length d)) × (d₁ ≡ laid 0 (refused_line number) d) → (r' ≡ end_of 0 (refused_line number) (length d)) × (d₂ ≡ laid 0 (refused_line number) d) → (r ≡ r') × (d₁ ≡ d₂)
put-refused-one d number = one_each
