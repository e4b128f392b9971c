-- A line from its pieces: how long it is, and that it lies as it was put.
use mathlib.Core.Path.{◌≡◌, refl, ap, sym, ◌∙◌, subst}
use Prim.Native.Nat.{ℕ, ◌+◌, ◌≤◌}
use native.Mathlib.Omega.{arith}
use mathlib.Core.List.{List, [], ◌∷◌, ◌++◌, append_assoc}
use mathlib.Core.Bool.{Bool, true, false, ◌&&◌}
use lib.ListN.{length, get_or, length-append}
use lib.Dec.{leb}
use Rattle.words.specs.Buffers.{pick}
use Rattle.words.proofs.Over.{laid-over}
use Rattle.words.proofs.Laid.{over_nothing}
use Rattle.name_state.specs.declared.Class.{Class}
use Rattle.texts.specs.Text.{decimal, newline, refused_text, end_of}
use Rattle.texts.proofs.Decimal.{decimal-long}
use Rattle.texts.proofs.Puts.{Puts, end-within, and_then}
use Rattle.reports.specs.Name.{class_name, state_text, name_text, bytes_text}
use Rattle.reports.specs.Link.{inputs_text, linked_text, names_text, at_text, index_text, stopped_line}

-- nothing, put where there are bytes
pub nothing_put : (d : List ℕ) (at : ℕ) → at ≤ length d → Puts d at [] d at
nothing_put d at h =
    let e : end_of at [] (length d) ≡ at + 0 = end-within at [] (length d) (omega arith) in
    (omega arith, sym (laid-over at [] d 0 refl (omega arith) ∙ over_nothing at d))

-- three labels, what follows each, and the end
module _ (s c n x b y e : List ℕ) where
  seven-long : length (s ++ c ++ n ++ x ++ b ++ y ++ e) ≡ length s + length c + length n + length x + length b + length y + length e
  seven-long =
      omega (
        arith,
        length-append s c,
        length-append (s ++ c) n,
        length-append (s ++ c ++ n) x,
        length-append (s ++ c ++ n ++ x) b,
        length-append (s ++ c ++ n ++ x ++ b) y,
        length-append (s ++ c ++ n ++ x ++ b ++ y) e,
      )

  bracketed : s ++ c ++ (n ++ x) ++ (b ++ y) ++ e ≡ s ++ c ++ n ++ x ++ b ++ y ++ e
  bracketed = ap (λ z. z ++ (b ++ y) ++ e) (sym (append_assoc (s ++ c) n x)) ∙ ap (λ z. z ++ e) (sym (append_assoc (s ++ c ++ n ++ x) b y))

  pub line-put :
      (d : List ℕ) {d₁ d₂ d₃ d₄ : List ℕ} {p₁ p₂ p₃ p₄ : ℕ} → length (s ++ c ++ n ++ x ++ b ++ y ++ e) ≤ length d
      → Puts d 0 (s ++ c) d₁ p₁
      → Puts d₁ p₁ (n ++ x) d₂ p₂
      → Puts d₂ p₂ (b ++ y) d₃ p₃
      → Puts d₃ p₃ e d₄ p₄
      → Puts d 0 (s ++ c ++ n ++ x ++ b ++ y ++ e) d₄ p₄
  line-put d {d₄ = d₄} {p₄ = p₄} room f g h k =
      let whole : length (s ++ c ++ (n ++ x) ++ (b ++ y) ++ e) ≤ length d = rw bracketed room in
      let l₂ = length-append (s ++ c) (n ++ x) in
      let l₃ = length-append (s ++ c ++ (n ++ x)) (b ++ y) in
      let l₄ = length-append (s ++ c ++ (n ++ x) ++ (b ++ y)) e in
      subst (λ (l : List ℕ). Puts d 0 l d₄ p₄) bracketed
      (and_then d 0 (s ++ c ++ (n ++ x) ++ (b ++ y)) e (and_then d 0 (s ++ c ++ (n ++ x)) (b ++ y) (and_then d 0 (s ++ c) (n ++ x) f g (omega arith)) h (omega arith)) k (omega arith))

class-long : (c : Class) → length (class_name c) ≡ 4
class-long Class.Null = refl
class-long Class.Held = refl
class-long Class.Free = refl

pub begin-long : (c : Class) → length (state_text ++ class_name c) ≤ 10
begin-long c = omega (arith, length-append state_text (class_name c), class-long c)

pub state-long : (c : Class) (i j : ℕ) → length (state_text ++ class_name c ++ name_text ++ decimal i ++ bytes_text ++ decimal j ++ newline) ≤ 64
state-long c i j = omega (arith, seven-long state_text (class_name c) name_text (decimal i) bytes_text (decimal j) newline, class-long c, decimal-long i, decimal-long j)

pub summary-long : (i j k : ℕ) → length (inputs_text ++ decimal i ++ linked_text ++ decimal j ++ names_text ++ decimal k ++ newline) ≤ 89
summary-long i j k = omega (arith, seven-long inputs_text (decimal i) linked_text (decimal j) names_text (decimal k) newline, decimal-long i, decimal-long j, decimal-long k)

index-long : (k i : ℕ) → length (index_text k i) ≤ 24
index-long k i = go (leb 12 k && leb k 26)
  where
    go : (b : Bool) → length (pick b (at_text ++ decimal i) []) ≤ 24
    go true = omega (arith, length-append at_text (decimal i), decimal-long i)
    go false = omega arith

pub field-long : (k : ℕ) → length (refused_text ++ decimal k) ≤ 28
field-long k = omega (arith, length-append refused_text (decimal k), decimal-long k)

numbered-long : (k i : ℕ) → length (refused_text ++ decimal k ++ index_text k i) ≤ 52
numbered-long k i = omega (arith, length-append (refused_text ++ decimal k) (index_text k i), field-long k, index-long k i)

pub stopped-long : (k : ℕ) (vs : List ℕ) → length (stopped_line k vs) ≤ 53
stopped-long k vs = omega (arith, length-append (refused_text ++ decimal k ++ index_text k (get_or vs 0 0)) newline, numbered-long k (get_or vs 0 0))

-- where the index begins
pub field-ends : (d : List ℕ) (k : ℕ) → 53 ≤ length d → end_of 0 (refused_text ++ decimal k) (length d) ≤ length d
field-ends d k room =
    let long = field-long k in
    let e = end-within 0 (refused_text ++ decimal k) (length d) (omega arith) in
    omega arith

pub stopped-put :
    (d : List ℕ) (k i : ℕ) {d₁ d₂ d₃ : List ℕ} {p₁ p₂ p₃ : ℕ} → 53 ≤ length d
    → Puts d 0 (refused_text ++ decimal k) d₁ p₁
    → Puts d₁ p₁ (index_text k i) d₂ p₂
    → Puts d₂ p₂ newline d₃ p₃
    → Puts d 0 (stopped_line k (i ∷ [])) d₃ p₃
stopped-put d k i room f g h =
    let l₂ = numbered-long k i in
    let l₃ = stopped-long k (i ∷ []) in
    and_then d 0 (refused_text ++ decimal k ++ index_text k i) newline (and_then d 0 (refused_text ++ decimal k) (index_text k i) f g (omega arith)) h (omega arith)
