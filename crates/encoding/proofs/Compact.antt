-- The four forms of a compact size, how long each is, and the answer to writing.
use mathlib.Core.Path.{◌≡◌, refl, ap, ap₂, sym, ◌∙◌}
use Prim.Native.Nat.{ℕ, ◌+◌, ◌≤◌, ◌<◌}
use native.Mathlib.Omega.{arith}
use mathlib.Core.List.{List, [], ◌∷◌}
use mathlib.Core.Bool.{Bool, true, false}
use lib.ListN.{length, length-append}
use lib.Dec.{ltb, leb}
use borrow.Author.Tests.{le-ltb, lt-ltb, leb-true}
use Rattle.words.specs.Words.{bytes}
use Rattle.words.specs.Buffers.{pick, over, fits, laid}
use Rattle.words.proofs.Over.{room, no_room, laid-over, length_over, over-append}
use Rattle.refusal.specs.Outcome.{Wrote, wrote, refused}
use Rattle.refusal.proofs.Outcomes.{never_both}
use Rattle.encoding.specs.Wire.{compact, compact_size, varbytes, put_answer}

pub length-compact : (v : ℕ) → length (compact v) ≡ compact_size v
unfolding bytes compact compact_size
length-compact v = go (ltb v 253) (ltb v 65536) (ltb v 4294967296)
  where
    go : (a b c : Bool) → length (pick a (bytes 1 v) (pick b (253 ∷ bytes 2 v) (pick c (254 ∷ bytes 4 v) (255 ∷ bytes 8 v)))) ≡ pick a 1 (pick b 3 (pick c 5 9))
    go true b c = refl
    go false true c = refl
    go false false true = refl
    go false false false = refl

pub compact-size-most : (v : ℕ) → (1 ≤ compact_size v) × (compact_size v ≤ 9)
unfolding compact_size
compact-size-most v = go (ltb v 253) (ltb v 65536) (ltb v 4294967296)
  where
    go : (a b c : Bool) → (1 ≤ pick a 1 (pick b 3 (pick c 5 9))) × (pick a 1 (pick b 3 (pick c 5 9)) ≤ 9)
    go true b c = (omega arith, omega arith)
    go false true c = (omega arith, omega arith)
    go false false true = (omega arith, omega arith)
    go false false false = (omega arith, omega arith)

pub form1 : (v : ℕ) → v < 253 → (compact v ≡ bytes 1 v) × (compact_size v ≡ 1)
unfolding compact compact_size
form1 v h = (simp (lt-ltb v 253 h), simp (lt-ltb v 253 h))

pub form3 : (v : ℕ) → 253 ≤ v → v < 65536 → (compact v ≡ 253 ∷ bytes 2 v) × (compact_size v ≡ 3)
unfolding compact compact_size
form3 v g h = (simp (le-ltb v 253 g, lt-ltb v 65536 h), simp (le-ltb v 253 g, lt-ltb v 65536 h))

pub form5 : (v : ℕ) → 65536 ≤ v → v < 4294967296 → (compact v ≡ 254 ∷ bytes 4 v) × (compact_size v ≡ 5)
unfolding compact compact_size
form5 v g h =
    let f = le-ltb v 253 (omega arith) in
    (simp (f, le-ltb v 65536 g, lt-ltb v 4294967296 h), simp (f, le-ltb v 65536 g, lt-ltb v 4294967296 h))

pub form9 : (v : ℕ) → 4294967296 ≤ v → (compact v ≡ 255 ∷ bytes 8 v) × (compact_size v ≡ 9)
unfolding compact compact_size
form9 v g =
    let f = le-ltb v 253 (omega arith) in
    let f' = le-ltb v 65536 (omega arith) in
    (simp (f, f', le-ltb v 4294967296 g), simp (f, f', le-ltb v 4294967296 g))

pub length-varbytes : (bs : List ℕ) {n : ℕ} → n ≡ compact_size (length bs) + length bs → length (varbytes bs) ≡ n
unfolding varbytes
length-varbytes bs e = length-append (compact (length bs)) bs ∙ ap (λ (k : ℕ). k + length bs) (length-compact (length bs)) ∙ sym e

-- ---- the answer to writing bs, which are n bytes

module _ (at : ℕ) (bs d : List ℕ) (n : ℕ) (long : length bs ≡ n) where
  -- as it was said to have been done or not
  pub put-said : {done : Bool} {w : Wrote} → done ≡ fits at bs d → w ≡ pick done (wrote n) (refused 29 (n ∷ [])) → w ≡ put_answer at bs d
  unfolding put_answer
  put-said e f = f ∙ rw (e, long)

  pub put-room : at + n ≤ length d → {d' : List ℕ} → d' ≡ over at bs d → (wrote n ≡ put_answer at bs d) × (d' ≡ laid at bs d)
  put-room h e = let r = room at bs d n long h e in (put-said r.0 refl, r.1)

  pub put-none : length d < at + n → (refused 29 (n ∷ []) ≡ put_answer at bs d) × (d ≡ laid at bs d)
  put-none h = let r = no_room at bs d n long h in (put-said r.0 refl, r.1)

-- a length and then the bytes, where there is room for both
pub varbytes-over : (at : ℕ) (bs d : List ℕ) (prefix : ℕ) → prefix ≡ compact_size (length bs) → at + (prefix + length bs) ≤ length d
    → {d₁ d₂ : List ℕ} → d₁ ≡ over at (compact (length bs)) d → d₂ ≡ laid (at + prefix) bs d₁ → d₂ ≡ over at (varbytes bs) d
unfolding varbytes
varbytes-over at bs d prefix p h {d₁} e f =
    let long : length (compact (length bs)) ≡ prefix = length-compact (length bs) ∙ sym p in
    let kept : length d₁ ≡ length d = ap length e ∙ length_over at (compact (length bs)) d (omega arith) in
    f ∙ laid-over (at + prefix) bs d₁ (length bs) refl (omega arith)
    ∙ ap₂ (λ (n : ℕ) (l : List ℕ). over (at + n) bs l) (sym long) e
    ∙ over-append at (compact (length bs)) bs d (omega arith)

-- what was written lies within the destination
pub written-within : (at : ℕ) (bs d : List ℕ) {m : ℕ} → put_answer at bs d ≡ wrote m → at + m ≤ length d
unfolding put_answer fits
written-within at bs d {m} = go (leb (at + length bs) (length d)) refl
  where
    go : (b : Bool) → leb (at + length bs) (length d) ≡ b → pick b (wrote (length bs)) (refused 29 (length bs ∷ [])) ≡ wrote m → at + m ≤ length d
    go true t e =
        let k : length bs ≡ m = cc in
        omega (arith, leb-true (at + length bs) (length d) t)
    go false t e = absurd (never_both e refl)
