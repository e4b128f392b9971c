-- What is put: where it ends, what stands there, and what is put after it.
use mathlib.Core.Path.{◌≡◌, refl, ap, sym, ◌∙◌}
use Prim.Native.Nat.{ℕ, suc, ◌+◌, ◌≤◌, ◌<◌}
use native.Mathlib.Omega.{arith}
use mathlib.Core.List.{List, ◌++◌}
use lib.ListN.{length, take, drop, length-append}
use lib.Seq.{take-append_seam}
use lib.Dec.{leb}
use mathlib.Core.Bool.{true, false}
use borrow.Author.Tests.{le-leb, lt-leb, leb-true, leb-false}
use Rattle.words.specs.Buffers.{pick, over, fits, laid}
use Rattle.words.proofs.Cases.{by_order}
use Rattle.words.proofs.Over.{length_over, over-append, laid-over, no_room}
use Rattle.texts.specs.Text.{decimal, newline, refused_text, refused_line, end_of}
use Rattle.texts.proofs.Decimal.{decimal-long}

-- bs was put into d from at on, and ends at end
abbrev pub Puts : List ℕ → ℕ → List ℕ → List ℕ → ℕ → Type 0
Puts d at bs d' end = (end ≡ end_of at bs (length d)) × (d' ≡ laid at bs d)

-- the end of what fits, and of what does not
pub end-within : (at : ℕ) (bs : List ℕ) (n : ℕ) → at + length bs ≤ n → end_of at bs n ≡ at + length bs
unfolding end_of
end-within at bs n h = simp (le-leb (at + length bs) n h)

pub end-past : (at : ℕ) (bs : List ℕ) (n : ℕ) → n < at + length bs → end_of at bs n ≡ suc n
unfolding end_of
end-past at bs n h = simp (lt-leb (at + length bs) n h)

-- by what the store says of the room
pub stored : (at : ℕ) (bs d : List ℕ) → fits at bs d ≡ true → at + length bs ≤ length d
unfolding fits
stored at bs d e = leb-true (at + length bs) (length d) e

pub not-stored : (at : ℕ) (bs d : List ℕ) → fits at bs d ≡ false → length d < at + length bs
unfolding fits
not-stored at bs d e = leb-false (at + length bs) (length d) e

end_after : (at : ℕ) (xs ys : List ℕ) (n : ℕ) → end_of (at + length xs) ys n ≡ end_of at (xs ++ ys) n
unfolding end_of
end_after at xs ys n =
    let e : at + length xs + length ys ≡ at + length (xs ++ ys) = omega (arith, length-append xs ys) in
    ap (λ (k : ℕ). pick (leb k n) k (suc n)) e

-- two texts in a row end where both would
pub both_end : (at : ℕ) (xs ys : List ℕ) (n : ℕ) → end_of (end_of at xs n) ys n ≡ end_of at (xs ++ ys) n
both_end at xs ys n =
    by_order n (at + length xs)
    (λ h. rw (end-past at xs n h) (end-past (suc n) ys n (omega arith) ∙ sym (end-past at (xs ++ ys) n (omega (arith, length-append xs ys)))))
    (λ h. rw (end-within at xs n h) (end_after at xs ys n))

-- and lie as both would, where both fit
pub both-laid : (at : ℕ) (xs ys d : List ℕ) → at + length (xs ++ ys) ≤ length d → laid (end_of at xs (length d)) ys (laid at xs d) ≡ laid at (xs ++ ys) d
both-laid at xs ys d room =
    let long = length-append xs ys in
    let kept = length_over at xs d (omega arith) in
    rw (end-within at xs (length d) (omega arith), laid-over at xs d (length xs) refl (omega arith), laid-over (at + length xs) ys (over at xs d) (length ys) refl (omega arith), laid-over at (xs ++ ys) d (length (xs ++ ys)) refl room)
    (over-append at xs ys d (omega arith))

-- where the first does not fit, nothing is laid
pub none_after : (at : ℕ) (xs ys d : List ℕ) → length d < at + length xs → laid (end_of at xs (length d)) ys (laid at xs d) ≡ d
none_after at xs ys d h =
    rw (end-past at xs (length d) h, ← (no_room at xs d (length xs) refl h).1) (sym (no_room (suc (length d)) ys d (length ys) refl (omega arith)).1)

-- one put after another, where both fit
pub and_then : (d : List ℕ) (at : ℕ) (xs ys : List ℕ) {d₁ d₂ : List ℕ} {p q : ℕ} → Puts d at xs d₁ p → Puts d₁ p ys d₂ q → at + length (xs ++ ys) ≤ length d → Puts d at (xs ++ ys) d₂ q
and_then d at xs ys {d₁} {d₂} {p} {q} a b room =
    let long = length-append xs ys in
    let kept : length d₁ ≡ length d = ap length (a.1 ∙ laid-over at xs d (length xs) refl (omega arith)) ∙ length_over at xs d (omega arith) in
    (b.0 ∙ rw (a.0, kept) (both_end at xs ys (length d)), b.1 ∙ rw (a.0, a.1) (both-laid at xs ys d room))

-- nothing put, where it does not fit
pub none-put : (d : List ℕ) (at : ℕ) (bs : List ℕ) → length d < at + length bs → Puts d at bs d (length d + 1)
none-put d at bs h =
    let past : end_of at bs (length d) ≡ suc (length d) = end-past at bs (length d) h in
    (omega arith, (no_room at bs d (length bs) refl h).1)

-- what was put from the start on, where it fits, stands there
pub puts-stands : (d bs : List ℕ) {d' : List ℕ} {end : ℕ} → length bs ≤ length d → Puts d 0 bs d' end → (end ≤ length d) × (take end d' ≡ bs)
unfolding over
puts-stands d bs {d'} {end} room p =
    let past : end_of 0 bs (length d) ≡ 0 + length bs = end-within 0 bs (length d) (omega arith) in
    let e : end ≡ length bs = omega (arith, p.0) in
    (omega arith, rw (e, p.1, laid-over 0 bs d (length bs) refl (omega arith)) (take-append_seam bs (drop (0 + length bs) d)))

-- the line of a refusal from its two pieces
pub refused-long : (k : ℕ) → length (refused_line k) ≤ 29
refused-long k = omega (arith, length-append (refused_text ++ decimal k) newline, length-append refused_text (decimal k), decimal-long k)

pub refused-stands : (d : List ℕ) (k : ℕ) {d₁ d₂ : List ℕ} {p q : ℕ} → length d ≡ 29 → Puts d 0 (refused_text ++ decimal k) d₁ p → Puts d₁ p newline d₂ q → (q ≤ 29) × (take q d₂ ≡ refused_line k)
refused-stands d k long f g =
    let room = refused-long k in
    let s = puts-stands d (refused_line k) (omega arith) (and_then d 0 (refused_text ++ decimal k) newline f g (omega arith)) in
    (omega (arith, s.0), s.1)
