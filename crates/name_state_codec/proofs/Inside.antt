-- Where the texts of a record stand: inside it, and not too long.
use mathlib.Core.Path.{◌≡◌, ap, sym, ◌∙◌}
use Prim.Native.Nat.{ℕ, ◌+◌, ◌^◌, ◌≤◌, ◌<◌}
use native.Mathlib.Omega.{arith}
use mathlib.Core.List.{List}
use lib.ListN.{length}
use lib.Dec.{ltb}
use borrow.Author.Tests.{ltb-false}
use Rattle.refusal.specs.Outcome.{Outcome, ok, then}
use Rattle.encoding.specs.Wire.{fixed_at, slice_at}
use Rattle.refusal.proofs.Outcomes.{then_ok, passed}
use Rattle.encoding.proofs.Slice as slice
use Rattle.name_state_codec.specs.Read.{up_to, text_at, texts_at}

-- a number that was judged: it is what was read, and not too large
pub up_ok : (maximum reason v next : ℕ) {w p : ℕ} → up_to maximum reason v next ≡ ok w p → (◌≡◌ {A = Outcome ℕ} (ok v next) (ok w p)) × (v ≤ maximum)
unfolding up_to
up_ok maximum reason v next e =
    let k = passed (ltb maximum v) _ _ _ _ e in
    (k.1, ltb-false maximum v k.0)

pub up-to : (maximum reason v next : ℕ) {w p : ℕ} → up_to maximum reason v next ≡ ok w p → (w ≡ v) × (p ≡ next) × (v ≤ maximum)
up-to maximum reason v next {w} {p} e =
    let k = up_ok maximum reason v next e in
    let g = k.0 in
    let a : w ≡ v = cc in
    let b : p ≡ next = cc in
    (a, b, k.1)

-- how a text was read: its length, and then its bytes
pub record Text (width maximum : ℕ) (s : List ℕ) (at : ℕ) (part : ℕ × ℕ) (p : ℕ) : Type 0 where
  pub middle : ℕ
  pub size : fixed_at width s at ≡ ok part.1 middle
  pub body : slice_at part.1 s middle ≡ ok part p
  pub few : part.1 ≤ maximum
  pub fits : part.0 + part.1 ≤ length s

pub text-read : (width maximum reason : ℕ) (s : List ℕ) (at : ℕ) {part : ℕ × ℕ} {p : ℕ} → length s < 2 ^ 64 → text_at width maximum reason s at ≡ ok part p → Text width maximum s at part p
unfolding text_at
text-read width maximum reason s at {part} {p} big e =
    let w = then_ok (then (fixed_at width s at) (up_to maximum reason)) e in
    let f = then_ok (fixed_at width s at) w.2 in
    let u = up-to maximum reason f.0 f.1 f.3 in
    let x = slice.read w.0 s w.1 big w.3 in
    let n : w.0 ≡ part.1 = sym x.size in
    let m : w.1 ≡ f.1 = u.1 in
    let v : f.0 ≡ part.1 = sym u.0 ∙ n in
    record {
      middle = w.1;
      size = f.2 ∙ ap (λ y. ok y f.1) v ∙ ap (ok part.1) (sym m);
      body = ap (λ y. slice_at y s w.1) (sym n) ∙ w.3;
      few = omega (arith, u.2, v);
      fits = omega (arith, x.start, x.fits, n);
    }

pub texts-inside : (s : List ℕ) (at : ℕ) {t : (ℕ × ℕ) × (ℕ × ℕ)} {p : ℕ} → length s < 2 ^ 64 → texts_at s at ≡ ok t p
    → (t.0.1 ≤ 63) × (t.1.1 ≤ 512) × (t.0.0 + t.0.1 ≤ length s) × (t.1.0 + t.1.1 ≤ length s)
unfolding texts_at
texts-inside s at {t} {p} big e =
    let w = then_ok (text_at 1 63 1 s at) e in
    let v = then_ok (text_at 2 512 2 s w.1) w.3 in
    let a = text-read 1 63 1 s at big w.2 in
    let b = text-read 2 512 2 s w.1 big v.2 in
    let g = v.3 in
    let same : (w.0, v.0) ≡ t = cc in
    rw (← same) (a.few, b.few, a.fits, b.fits)
