-- An item at a fixed width, and an item found by a scan: what the reads of its bytes tell of it.
use mathlib.Core.Path.{◌≡◌, refl, ap, sym, ◌∙◌}
use Prim.Native.Nat.{ℕ, ◌+◌, ◌^◌, ◌≤◌, ◌<◌}
use native.Mathlib.Omega.{arith}
use mathlib.Core.List.{List}
use mathlib.Core.Bool.{Bool, true, false, ◌&&◌}
use mathlib.Core.Option.{Option, some, none}
use lib.ListN.{length, take, drop}
use lib.Dec.{leb, eqb}
use borrow.Author.Tests.{eq-eqb, ne_eqb, le-leb, lt-leb, le-ltb, lt-ltb}
use Rattle.std.specs.Prelude as code
use Rattle.std.specs.Prelude.{Result, Ok, Err, Some, None}
use Rattle.std.specs.Result.{result_ok}
use Rattle.words.specs.Words.{le, Bytes}
use Rattle.words.specs.Buffers.{pick}
use Rattle.words.proofs.Le.{le-under}
use Rattle.words.proofs.Cases.{by_order}
use Rattle.refusal.specs.Outcome.{Stand, Outcome, ok, err, then, past, many_at}
use Rattle.refusal.proofs.Outcomes.{never, then_ok, past-ok, past-err, past-then, then-err, then-past}
use Rattle.encoding.specs.Wire.{bytes_at, fixed_at}
use Rattle.encoding.proofs.Fixed.{bytes_read}
use Rattle.encoding.proofs.Slice as slice
use Rattle.covenants.specs.Covenant.{item_at, head_at}
use Rattle.covenants.specs.Items.{found, seek_at, spelled, of_width, number_in}
use Rattle.covenants.proofs.Moves.{items-move, head_read}

module _ (n : ℕ) (s : List ℕ) (start len : ℕ) where
  -- another width
  pub of-width-other : (len ≡ n → ⊥) → of_width n s (some (start, len)) ≡ none
  unfolding of_width
  of-width-other h = simp (ne_eqb len n h)

  pub number-other : (len ≡ n → ⊥) → number_in n s (some (start, len)) ≡ none
  unfolding number_in
  number-other h = rw (of-width-other h)

  module _ (same : len ≡ n) (big : length s < 2 ^ 64) where
    pub of-width-read : {bs : List ℕ} {next : ℕ} → bytes_at n s start ≡ ok bs next → of_width n s (some (start, len)) ≡ some bs
    unfolding of_width
    of-width-read {bs} e =
        let t = bytes_read n s start big e in
        rw (eq-eqb len n same, le-leb (start + len) (length s) (omega (arith, t.fits)), t.are)

    pub of-width-none : {k : ℕ} {vs : List ℕ} {p : Stand} → bytes_at n s start ≡ err k vs p → of_width n s (some (start, len)) ≡ none
    unfolding of_width bytes_at
    of-width-none e =
        by_order (length s) (start + n)
        (λ h. rw (eq-eqb len n same, lt-leb (start + len) (length s) (omega arith)))
        (λ h.
        let w : bytes_at n s start ≡ ok (take n (drop start s)) (start + n) = rw (slice.within n s start (omega arith) h) in
        absurd (never w e))

    pub number-read : {v next : ℕ} → fixed_at n s start ≡ ok v next → some v ≡ number_in n s (some (start, len))
    unfolding number_in fixed_at
    number-read {v} e =
        let w = then_ok (bytes_at n s start) e in
        let spelled : le w.0 ≡ v = cc in
        rw (of-width-read w.2) (ap some (sym spelled))

    pub number-none : {k : ℕ} {vs : List ℕ} {p : Stand} → fixed_at n s start ≡ err k vs p → none ≡ number_in n s (some (start, len))
    unfolding number_in fixed_at
    number-none e = rw (of-width-none (past-err (bytes_at n s start) (sym (past-then (bytes_at n s start) le) ∙ ap past e)))

-- the number of an item of n bytes fits n bytes
pub number-under : (n : ℕ) (s : List ℕ) (item : Option (ℕ × ℕ)) {v : ℕ} → Bytes s → number_in n s item ≡ some v → v < 256 ^ n
unfolding number_in of_width
number-under n s none b e = absurd (let z : ◌≡◌ {A = ℕ} 0 1 = cc in omega arith)
number-under n s (some part) {v} b e = go (eqb part.1 n && leb (part.0 + part.1) (length s)) e
  where
    go : (t : Bool) → spelled (pick t (some (take n (drop part.0 s))) none) ≡ some v → v < 256 ^ n
    go true e = let same : le (take n (drop part.0 s)) ≡ v = cc in rw same at (le-under s part.0 n n b (omega arith))
    go false e = absurd (let z : ◌≡◌ {A = ℕ} 0 1 = cc in omega arith)

-- ---- what `.ok()` keeps of a result

module _ {T E : Type 0} {r : Result T E} {o : code.Option T} (kept : o ≡ result_ok r) where
  pub ok_kept : {x : T} → o ≡ Some x → r ≡ Ok x
  ok_kept {x} e = go r (sym kept ∙ e)
    where
      go : (r : Result T E) → result_ok r ≡ Some x → r ≡ Ok x
      go (Ok y) f = let same : y ≡ x = cc in ap Ok same
      go (Err y) f = cc

  pub err-kept : o ≡ None → (y : E) × (r ≡ Err y)
  err-kept e = go r (sym kept ∙ e)
    where
      go : (r : Result T E) → result_ok r ≡ None → (y : E) × (r ≡ Err y)
      go (Ok y) f = cc
      go (Err y) f = (y, refl)

-- ---- a scan for an item: the head is read, then the items before it are passed, and then it is read

module _ (s : List ℕ) (at index : ℕ) {start allowance : ℕ} (made : (start ≡ at) × (allowance ≡ 1000009)) where
  pub seek-refused : {k : ℕ} {vs : List ℕ} {p : Stand} → head_at allowance s start ≡ err k vs p → none ≡ seek_at s at index
  unfolding seek_at
  seek-refused e = rw (← made.0, ← made.1, e)

  module _ {head : ℕ × ℕ} {first : ℕ} (e : head_at allowance s start ≡ ok head first) where
    pub seek-past : head.1 ≤ index → none ≡ seek_at s at index
    unfolding seek_at
    seek-past h = rw (← made.0, ← made.1, e, le-ltb _ _ h)

    module _ (h : index < head.1) where
      abbrev Before : Outcome (List (ℕ × ℕ))
      Before = many_at (item_at allowance start s) index first

      seek-is : found (then Before (λ before next. item_at allowance start s next)) ≡ seek_at s at index
      unfolding seek_at
      seek-is = rw (← made.0, ← made.1, e, lt-ltb _ _ h)

      pub seek-cut : {k : ℕ} {vs : List ℕ} {p : Stand} → past Before ≡ err k vs p → none ≡ seek_at s at index
      seek-cut f = sym (ap found (then-err Before (λ before next. item_at allowance start s next) f)) ∙ seek-is

      pub seek-found : {next : ℕ} {o : Outcome (ℕ × ℕ)} → past Before ≡ ok tt next → item_at allowance start s next ≡ o → found o ≡ seek_at s at index
      seek-found f g = ap found (sym g ∙ sym (then-past Before (item_at allowance start s) f)) ∙ seek-is

      pub seek-later : {next : ℕ} → past Before ≡ ok tt next → length s < 2 ^ 64 → start ≤ next
      seek-later f big =
          let head = head_read allowance s start big e in
          let moved = items-move allowance start s big index first (past-ok Before f).1 in
          omega (arith, head.later, moved.0)
