-- 8 judged by the bitmap: a record that was read has been read from its own bytes, with the bitmap that stands there.
use mathlib.Core.Path.{◌≡◌, refl, ap, sym, ◌∙◌}
use Prim.Native.Nat.{ℕ, ◌+◌, ◌-◌, ◌^◌, ◌≤◌, ◌<◌}
use native.Mathlib.Omega.{arith}
use mathlib.Core.List.{List, [], ◌∷◌, ◌++◌, append-nil, append_cancel_left}
use mathlib.Core.Bool.{Bool, true, false, not}
use lib.ListN.{length, take, drop, length-append}
use lib.Seq.{drop-length, take_at}
use lib.Dec.{ltb, eqb}
use borrow.Author.Tests.{le-ltb, eqb-true, eqb-false}
use Rattle.words.specs.Words.{le, bytes, Bytes}
use Rattle.words.specs.Buffers.{pick}
use Rattle.words.specs.Sameness.{same}
use Rattle.words.proofs.Le.{length-bytes, le_bytes, part-long}
use Rattle.words.proofs.Sameness.{same_refl, same_true}
use Rattle.refusal.specs.Outcome.{Outcome, ok, err, then}
use Rattle.refusal.proofs.Outcomes.{then_ok, never, passed, ok-to}
use Rattle.encoding.specs.Wire.{compact, fixed_at, bytes_at, compact_at, finish_at, inside, remaining_at}
use Rattle.encoding.proofs.Found.{Found, join, found-slice, found-bytes, found-fixed, found-compact}
use Rattle.primitives.specs.Outpoints.{is_null, null_outpoint}
use Rattle.primitives.specs.declared.Outpoint.{Outpoint}
use Rattle.name_state.specs.State.{State, bit, bitmap, binding}
use Rattle.name_state_codec.specs.Written.{has, given, owner_record, texts_bytes, numbers_bytes, held_bytes, times_bytes, record_with, state_bytes}
use Rattle.name_state_codec.specs.Read.{up_to, text_at, texts_at, numbers_at, present, owner_at, amount_at, amounts_at, held_at, times_at, gathered, optional_at, fields_at, standing_at, judged_state, read_state}
use Rattle.name_state_codec.specs.Workers.{judged_bits}
use Rattle.name_state_codec.proofs.Inside.{up_ok, text-read}

module _ (s : List ℕ) (small : Bytes s) (big : length s < 2 ^ 64) where
  abbrev part : ℕ × ℕ → List ℕ
  part x = take x.1 (drop x.0 s)

  found-present : {A : Type 0} (b : Bool) (o : Outcome A) (absent : A) (at : ℕ) (bs : A → List ℕ) {v : A} {p : ℕ}
      → ((v : A) (p : ℕ) → o ≡ ok v p → Found s at (bs v) p) → present b o absent at ≡ ok v p → Found s at (given b (bs v)) p
  found-present true o absent at bs {v} {p} f e = f v p e
  found-present false o absent at bs {v} {p} f e = let y : at ≡ p = cc in record { there = ap (λ m. drop m s) y }

  found_up : (maximum reason at v p : ℕ) → then (compact_at s at) (up_to maximum reason) ≡ ok v p → Found s at (compact v) p
  found_up maximum reason at v p e =
      let w = then_ok (compact_at s at) e in
      ok-to (λ v p. Found s at (compact v) p) (up_ok maximum reason w.0 w.1 w.3).0 (found-compact s small big at w.2)

  found-owner : (at : ℕ) (o : Outpoint) (p : ℕ) → owner_at s at ≡ ok o p → Found s at (owner_record o) p
  unfolding owner_at
  found-owner at o p e =
      let w = then_ok (bytes_at 32 s at) e in
      let v = then_ok (then (compact_at s w.1) (up_to 4294967295 4)) w.3 in
      ok-to (λ o p. Found s at (owner_record o) p) v.3
      (join (found-bytes s small big 32 at w.2) (found_up 4294967295 4 w.1 v.0 v.1 v.2))

  found-amounts : (b at : ℕ) (h : ℕ × ℕ) (p : ℕ) → amounts_at b s at ≡ ok h p → Found s at (given (has 2 b) (compact h.0) ++ given (has 4 b) (compact h.1)) p
  unfolding amounts_at amount_at
  found-amounts b at h p e =
      let x = then_ok (present (has 2 b) (amount_at s at) 0 at) e in
      let y = then_ok (present (has 4 b) (amount_at s x.1) 0 x.1) x.3 in
      ok-to (λ h p. Found s at (given (has 2 b) (compact h.0) ++ given (has 4 b) (compact h.1)) p) y.3
      (join (found-present (has 2 b) (amount_at s at) 0 at compact (found_up 9007199254740991 6 at) x.2)
      (found-present (has 4 b) (amount_at s x.1) 0 x.1 compact (found_up 9007199254740991 6 x.1) y.2))

  found-held : (b at : ℕ) (h : Outpoint × (ℕ × ℕ)) (p : ℕ) → held_at b s at ≡ ok h p
      → Found s at (given (has 1 b) (owner_record h.0) ++ (given (has 2 b) (compact h.1.0) ++ given (has 4 b) (compact h.1.1))) p
  unfolding held_at
  found-held b at h p e =
      let w = then_ok (present (has 1 b) (owner_at s at) null_outpoint at) e in
      let a = then_ok (amounts_at b s w.1) w.3 in
      ok-to (λ h p. Found s at (given (has 1 b) (owner_record h.0) ++ (given (has 2 b) (compact h.1.0) ++ given (has 4 b) (compact h.1.1))) p) a.3
      (join (found-present (has 1 b) (owner_at s at) null_outpoint at owner_record (found-owner at) w.2)
      (found-amounts b w.1 a.0 a.1 a.2))

  found-times : (b at : ℕ) (t : ℕ × ℕ × ℕ × ℕ) (p : ℕ) → times_at b s at ≡ ok t p
      → Found s at (given (has 8 b) (bytes 4 t.0) ++ given (has 16 b) (bytes 4 t.1) ++ given (has 32 b) (bytes 4 t.2) ++ given (has 64 b) (compact t.3)) p
  unfolding times_at
  found-times b at t p e =
      let w = then_ok (present (has 8 b) (fixed_at 4 s at) 0 at) e in
      let x = then_ok (present (has 16 b) (fixed_at 4 s w.1) 0 w.1) w.3 in
      let y = then_ok (present (has 32 b) (fixed_at 4 s x.1) 0 x.1) x.3 in
      let z = then_ok (present (has 64 b) (then (compact_at s y.1) (up_to 4294967295 5)) 0 y.1) y.3 in
      let fixed : (at v p : ℕ) → fixed_at 4 s at ≡ ok v p → Found s at (bytes 4 v) p = λ at v p e. found-fixed s small big 4 at e in
      ok-to (λ t p. Found s at (given (has 8 b) (bytes 4 t.0) ++ given (has 16 b) (bytes 4 t.1) ++ given (has 32 b) (bytes 4 t.2) ++ given (has 64 b) (compact t.3)) p) z.3
      (join (join (join (found-present (has 8 b) (fixed_at 4 s at) 0 at (bytes 4) (fixed at) w.2)
      (found-present (has 16 b) (fixed_at 4 s w.1) 0 w.1 (bytes 4) (fixed w.1) x.2))
      (found-present (has 32 b) (fixed_at 4 s x.1) 0 x.1 (bytes 4) (fixed x.1) y.2))
      (found-present (has 64 b) (then (compact_at s y.1) (up_to 4294967295 5)) 0 y.1 compact (found_up 4294967295 5 y.1) z.2))

  found-text : (width maximum reason at : ℕ) (x : ℕ × ℕ) (p : ℕ) → text_at width maximum reason s at ≡ ok x p → Found s at (bytes width (length (part x)) ++ part x) p
  found-text width maximum reason at x p e =
      let A = text-read width maximum reason s at big e in
      rw (part-long s x.0 x.1 A.fits) (join (found-fixed s small big width at A.size) (found-slice s small big x.1 A.middle A.body))

  found-texts : (at : ℕ) (t : (ℕ × ℕ) × (ℕ × ℕ)) (p : ℕ) → texts_at s at ≡ ok t p
      → Found s at (bytes 1 (length (part t.0)) ++ part t.0 ++ (bytes 2 (length (part t.1)) ++ part t.1)) p
  unfolding texts_at
  found-texts at t p e =
      let a = then_ok (text_at 1 63 1 s at) e in
      let b = then_ok (text_at 2 512 2 s a.1) a.3 in
      ok-to (λ t p. Found s at (bytes 1 (length (part t.0)) ++ part t.0 ++ (bytes 2 (length (part t.1)) ++ part t.1)) p) b.3
      (join (found-text 1 63 1 at a.0 a.1 a.2) (found-text 2 512 2 a.1 b.0 b.1 b.2))

  record Numbered (at : ℕ) (n : ℕ × ℕ × ℕ) (p : ℕ) : Type 0 where
    all : Found s at (bytes 4 n.0 ++ bytes 4 n.1 ++ bytes 2 n.2) p
    few : n.2 ≤ 1023

  found-numbers : (at : ℕ) (n : ℕ × ℕ × ℕ) (p : ℕ) → numbers_at s at ≡ ok n p → Numbered at n p
  unfolding numbers_at
  found-numbers at n p e =
      let c = then_ok (fixed_at 4 s at) e in
      let d = then_ok (fixed_at 4 s c.1) c.3 in
      let f = then_ok (then (fixed_at 2 s d.1) (up_to 1023 3)) d.3 in
      let i = then_ok (fixed_at 2 s d.1) f.2 in
      let u = up_ok 1023 3 i.0 i.1 i.3 in
      ok-to (λ n p. Numbered at n p) f.3
      (ok-to (λ b p. Numbered at (c.0, d.0, b) p) u.0
      (record { all = join (join (found-fixed s small big 4 at c.2) (found-fixed s small big 4 c.1 d.2)) (found-fixed s small big 2 d.1 i.2); few = u.1 }))

  -- the whole record: it stands there as it would be written with the bitmap that was read
  pub found-fields : (key : List ℕ) (at : ℕ) (r : ℕ × State) (p : ℕ) → fields_at key s at ≡ ok r p → Found s at (record_with r.0 r.1) p × (r.0 ≤ 1023)
  unfolding fields_at optional_at gathered record_with texts_bytes numbers_bytes held_bytes times_bytes
  found-fields key at r p e =
      let t = then_ok (texts_at s at) e in
      let n = then_ok (numbers_at s t.1) t.3 in
      let h = then_ok (held_at n.0.2 s n.1) n.3 in
      let x = then_ok (times_at n.0.2 s h.1) h.3 in
      let N = found-numbers t.1 n.0 n.1 n.2 in
      ok-to (λ r p. Found s at (record_with r.0 r.1) p × (r.0 ≤ 1023)) x.3
      (join (join (found-texts at t.0 t.1 t.2) N.all) (join (found-held n.0.2 n.1 h.0 h.1 h.2) (found-times n.0.2 h.1 x.0 x.1 x.2)), N.few)

bit-most : (w : ℕ) (b : Bool) → bit w b ≤ w
bit-most w true = omega arith
bit-most w false = omega arith

pub bitmap-most : (t : State) → bitmap t ≤ 1023
unfolding bitmap
bitmap-most t =
    omega (arith, bit-most 1 (not (is_null t.owner)), bit-most 2 (not (eqb t.value 0)), bit-most 4 (not (eqb t.highest 0)), bit-most 8 (not (eqb t.transfer 0)), bit-most 16 (not (eqb t.revoked 0)), bit-most 32 (not (eqb t.claimed 0)), bit-most 64 (not (eqb t.renewals 0)), bit-most 128 t.registered, bit-most 256 t.expired, bit-most 512 t.weak)

pub numbers-long : (b : ℕ) (t : State) → length (numbers_bytes b t) ≡ 10
unfolding numbers_bytes
numbers-long b t =
    omega (arith, length-append (bytes 4 t.height ++ bytes 4 t.renewal) (bytes 2 b), length-append (bytes 4 t.height) (bytes 4 t.renewal), length-bytes 4 t.height, length-bytes 4 t.renewal, length-bytes 2 b)

-- records with the same bytes have the same bitmap
pub same-bitmap : (t : State) (b c : ℕ) → b ≤ 1023 → c ≤ 1023 → record_with b t ≡ record_with c t → b ≡ c
unfolding record_with numbers_bytes
same-bitmap t b c hb hc e =
    let size : (w : ℕ) → length (numbers_bytes w t) ≡ 10 = λ w. numbers-long w t in
    let long : length (texts_bytes t ++ numbers_bytes b t) ≡ length (texts_bytes t ++ numbers_bytes c t) = length-append (texts_bytes t) (numbers_bytes b t) ∙ ap (λ n. length (texts_bytes t) + n) (size b ∙ sym (size c)) ∙ sym (length-append (texts_bytes t) (numbers_bytes c t)) in
    let f = sym (take_at (texts_bytes t ++ numbers_bytes b t) (held_bytes b t ++ times_bytes b t) _ long) ∙ ap (take (length (texts_bytes t ++ numbers_bytes c t))) e ∙ take_at (texts_bytes t ++ numbers_bytes c t) (held_bytes c t ++ times_bytes c t) _ refl in
    let g = append_cancel_left (texts_bytes t) (numbers_bytes b t) (numbers_bytes c t) f in
    let h = append_cancel_left (bytes 4 t.height ++ bytes 4 t.renewal) (bytes 2 b) (bytes 2 c) g in
    sym (le_bytes 2 b (omega arith)) ∙ ap le h ∙ le_bytes 2 c (omega arith)

pub finish-end : (s : List ℕ) (p : ℕ) {u : Unit} {q : ℕ} → finish_at s p ≡ ok u q → (p ≡ length s) × (q ≡ length s)
unfolding finish_at inside remaining_at
finish-end s p {u} {q} e = go (eqb p (length s)) refl (passed (ltb (length s) p) _ _ _ _ e).1
  where
    go : (x : Bool) → eqb p (length s) ≡ x → pick x (ok tt p) (err 3 ((length s - p) ∷ []) p) ≡ ok u q → (p ≡ length s) × (q ≡ length s)
    go true f g = let z : p ≡ q = cc in (eqb-true p (length s) f, sym z ∙ eqb-true p (length s) f)
    go false f g = absurd (never g refl)

-- what is judged by the bytes and by the bitmap is the same
module _ (key s : List ℕ) (small : Bytes s) (big : length s < 2 ^ 64) where
  -- the writer would give the same bytes: the bitmap that was read is the state's
  pub canonical-is : (r : ℕ × State) (p : ℕ) → fields_at key s 0 ≡ ok r p → p ≡ length s → same (state_bytes r.1) s ≡ eqb (bitmap r.1) r.0
  unfolding state_bytes
  canonical-is r p e f = go (eqb (bitmap r.1) r.0) refl
    where
      reads : Found s 0 (record_with r.0 r.1) p × (r.0 ≤ 1023)
      reads = found-fields s small big key 0 r p e

      whole : s ≡ record_with r.0 r.1
      whole = reads.0.there ∙ ap (λ zs. record_with r.0 r.1 ++ zs) (ap (λ n. drop n s) f ∙ drop-length s) ∙ append-nil (record_with r.0 r.1)

      other : (eqb (bitmap r.1) r.0 ≡ false) → (y : Bool) → same (record_with (bitmap r.1) r.1) s ≡ y → y ≡ false
      other g true h = absurd (eqb-false _ _ g (same-bitmap r.1 (bitmap r.1) r.0 (bitmap-most r.1) reads.1 (same_true _ _ h ∙ whole)))
      other g false h = refl

      go : (x : Bool) → eqb (bitmap r.1) r.0 ≡ x → same (record_with (bitmap r.1) r.1) s ≡ x
      go true g = ap (λ b. same (record_with b r.1) s) (eqb-true (bitmap r.1) r.0 g) ∙ ap (same (record_with r.0 r.1)) whole ∙ same_refl (record_with r.0 r.1)
      go false g = other g (same (record_with (bitmap r.1) r.1) s) refl

  judged-same : (r : ℕ × State) (p : ℕ) → fields_at key s 0 ≡ ok r p → judged_state s r p ≡ judged_bits s r p
  unfolding judged_state judged_bits
  judged-same r p e = go (finish_at s p) refl
    where
      go : (o : Outcome Unit) → finish_at s p ≡ o
          → then o (λ u at. then (standing_at at (binding r.1)) (λ u q. pick (same (state_bytes r.1) s) (ok r.1 q) (err 8 [] q)))
          ≡ then o (λ u at. then (standing_at at (binding r.1)) (λ u q. pick (eqb (bitmap r.1) r.0) (ok r.1 q) (err 8 [] q)))
      go (ok u at) f = ap (λ (y : Bool). then (standing_at at (binding r.1)) (λ u q. pick y (ok r.1 q) (err 8 [] q))) (canonical-is r p e (finish-end s p f).0)
      go (err k vs q) f = refl

  pub then-bits : then (fields_at key s 0) (judged_state s) ≡ then (fields_at key s 0) (judged_bits s)
  then-bits = go (fields_at key s 0) refl
    where
      go : (o : Outcome (ℕ × State)) → fields_at key s 0 ≡ o → then o (judged_state s) ≡ then o (judged_bits s)
      go (ok r p) e = judged-same r p e
      go (err k vs p) e = refl

pub read-bits : (key s : List ℕ) → Bytes s → length s ≤ 668 → read_state key s ≡ then (fields_at key s 0) (judged_bits s)
unfolding read_state
read-bits key s small few = rw (le-ltb 668 (length s) few) (then-bits key s small (omega arith))
