-- What was read stands there as it would be written: a part, a number, a compact size.
use mathlib.Core.Path.{◌≡◌, refl, ap, sym, ◌∙◌}
use Prim.Native.Nat.{ℕ, zero, suc, ◌+◌, ◌^◌, ◌≤◌, ◌<◌}
use native.Mathlib.Omega.{arith}
use mathlib.Core.List.{List, [], ◌++◌, map, append_assoc}
use mathlib.Core.Bool.{Bool, true, false}
use lib.ListN.{length, take, drop, take-append-drop, length-take, length-drop}
use lib.Seq.{drop-drop}
use lib.Dec.{ltb, eqb}
use borrow.Author.Tests.{ltb-true, ltb-false, eqb-true, eqb-false}
use Rattle.words.specs.Words.{le, bytes, Bytes}
use Rattle.words.specs.Buffers.{pick}
use Rattle.words.proofs.Le.{bytes_le, part_bytes}
use Rattle.refusal.specs.Outcome.{Outcome, ok, then, many_at}
use Rattle.refusal.proofs.Outcomes.{then_ok, passed}
use Rattle.refusal.proofs.Many.{many-next}
use Rattle.encoding.specs.Wire.{slice_at, bytes_at, fixed_at, compact_at, canonical, compact, most, compact_most}
use Rattle.encoding.specs.Joined.{joined}
use Rattle.encoding.proofs.Compact.{form1, form3, form5, form9}
use Rattle.encoding.proofs.Fixed.{bytes_read, fixed-under, fixed-moves}
use Rattle.encoding.proofs.Slice as slice

-- from at to p stand bs
pub record Found (s : List ℕ) (at : ℕ) (bs : List ℕ) (p : ℕ) : Type 0 where
  pub there : drop at s ≡ bs ++ drop p s

pub join : {s : List ℕ} {at p q : ℕ} {xs ys : List ℕ} → Found s at xs p → Found s p ys q → Found s at (xs ++ ys) q
join {s} {at} {p} {q} {xs} {ys} e f = record { there = e.there ∙ ap (λ zs. xs ++ zs) f.there ∙ sym (append_assoc xs ys (drop q s)) }

pub found_part : (s : List ℕ) (at n : ℕ) {p : ℕ} → p ≡ at + n → Found s at (take n (drop at s)) p
found_part s at n e = record { there = sym (take-append-drop n (drop at s)) ∙ ap (λ zs. take n (drop at s) ++ zs) (drop-drop n at s ∙ ap (λ m. drop m s) (sym e)) }

-- where each thing of one kind that is read stands there as it would be written, several of them stand there without
-- gaps
module _ {A B : Type 0} (s : List ℕ) (read : ℕ → Outcome A) (bytes : B → List ℕ) (mean : A → B)
    (each : (at : ℕ) (a : A) (next : ℕ) → read at ≡ ok a next → Found s at (bytes (mean a)) next) where
  pub many-found : (n at : ℕ) {xs : List A} {end : ℕ} → many_at read n at ≡ ok xs end → Found s at (joined bytes (map mean xs)) end
  unfolding joined many_at
  many-found zero at {xs} {end} e =
      let none : [] ≡ xs = cc in
      let here : at ≡ end = cc in
      rw (← none, ← here) (record { there = refl })
  many-found (suc n) at {xs} {end} e =
      let w = many-next read {n = n} {n' = suc n} refl e in
      rw w.split (join (each at w.first w.next w.here) (many-found n w.next w.rest))

module _ (s : List ℕ) (small : Bytes s) (big : length s < 2 ^ 64) where
  pub found-slice : (n at : ℕ) {part : ℕ × ℕ} {p : ℕ} → slice_at n s at ≡ ok part p → Found s at (take n (drop part.0 s)) p
  found-slice n at e =
      let x = slice.read n s at big e in
      rw x.start (found_part s at n x.ends)

  pub found-bytes : (n at : ℕ) {bs : List ℕ} {p : ℕ} → bytes_at n s at ≡ ok bs p → Found s at bs p
  found-bytes n at e =
      let x = bytes_read n s at big e in
      rw x.are (found_part s at n x.ends)

  pub found-fixed : (n at : ℕ) {v p : ℕ} → fixed_at n s at ≡ ok v p → Found s at (bytes n v) p
  unfolding fixed_at
  found-fixed n at {v} {p} e =
      let w = then_ok (bytes_at n s at) e in
      let x = bytes_read n s at big w.2 in
      let g = w.3 in
      let a : le w.0 ≡ v = cc in
      let b : w.1 ≡ p = cc in
      let long : length (take n (drop at s)) ≡ n = simp (length-take, length-drop) (omega (arith, x.fits)) in
      let c : bytes n v ≡ take n (drop at s) = ap (bytes n) (sym a ∙ ap le x.are) ∙ bytes_le n (take n (drop at s)) long (part_bytes s at n small) in
      rw c (found_part s at n (sym b ∙ x.ends))

  -- a longer form, after its tag
  found-long : (n width least tag at : ℕ) {v p : ℕ} → Found s at (bytes 1 tag) (at + 1) → then (fixed_at n s (at + 1)) (canonical width least) ≡ ok v p
      → (least ≤ v) × (v < 256 ^ n) × Found s at (bytes 1 tag ++ bytes n v) p
  unfolding canonical
  found-long n width least tag at {v} {p} h e =
      let w = then_ok (fixed_at n s (at + 1)) e in
      let k = passed (ltb w.0 least) _ _ _ _ w.3 in
      let g = k.1 in
      let a : w.0 ≡ v = cc in
      let b : w.1 ≡ p = cc in
      let f : fixed_at n s (at + 1) ≡ ok v p = w.2 ∙ g in
      (omega (arith, ltb-false w.0 least k.0), fixed-under n s (at + 1) small f, join h (found-fixed n (at + 1) f))

  pub found-compact : (at : ℕ) {v p : ℕ} → compact_at s at ≡ ok v p → Found s at (compact v) p
  unfolding compact_at bytes
  found-compact at {v} {p} e =
      let w = then_ok (fixed_at 1 s at) e in
      go (ltb w.0 253) (eqb w.0 253) (eqb w.0 254) w.0 refl refl refl (fixed-moves 1 s at big w.2).0 (fixed-under 1 s at small w.2) (found-fixed 1 at w.2) w.3
    where
      go : (a b c : Bool) (tag : ℕ) {q : ℕ} → ltb tag 253 ≡ a → eqb tag 253 ≡ b → eqb tag 254 ≡ c → q ≡ at + 1 → tag < 256 → Found s at (bytes 1 tag) q
          → pick a (ok tag q) (pick b (then (fixed_at 2 s q) (canonical 16 253)) (pick c (then (fixed_at 4 s q) (canonical 32 65536)) (then (fixed_at 8 s q) (canonical 64 4294967296)))) ≡ ok v p
          → Found s at (compact v) p
      go true b c tag {q} f g h m t r e =
          let x : tag ≡ v = cc in
          let y : q ≡ p = cc in
          let z = (form1 v (omega (arith, ltb-true tag 253 f))).0 in
          rw (z, ← x, ← y) r
      go false true c tag {q} f g h m t r e =
          let l = found-long 2 16 253 tag at (rw m at r) (rw m at e) in
          let x = eqb-true tag 253 g in
          rw (form3 v l.0 (omega (arith, l.1))).0 (rw x at l.2)
      go false false true tag {q} f g h m t r e =
          let l = found-long 4 32 65536 tag at (rw m at r) (rw m at e) in
          let x = eqb-true tag 254 h in
          rw (form5 v l.0 (omega (arith, l.1))).0 (rw x at l.2)
      go false false false tag {q} f g h m t r e =
          let l = found-long 8 64 4294967296 tag at (rw m at r) (rw m at e) in
          let x : tag ≡ 255 = omega (arith, ltb-false tag 253 f, eqb-false tag 253 g, eqb-false tag 254 h) in
          rw (form9 v l.0).0 (rw x at l.2)

  pub found-most : (maximum at : ℕ) {v p : ℕ} → compact_most maximum s at ≡ ok v p → Found s at (compact v) p
  unfolding compact_most most
  found-most maximum at {v} {p} e =
      let w = then_ok (compact_at s at) e in
      let k = (passed (ltb maximum w.0) _ _ _ _ w.3).1 in
      found-compact at (w.2 ∙ k)
