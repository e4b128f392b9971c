-- Reading back what was written.
use mathlib.Core.Path.{◌≡◌, refl, ap, ap₂, sym, ◌∙◌}
use Prim.Native.Nat.{ℕ, ◌+◌, ◌^◌, ◌≤◌, ◌<◌}
use native.Mathlib.Omega.{arith}
use mathlib.Core.List.{List, ◌++◌}
use mathlib.Core.Bool.{Bool, true, false, not}
use lib.ListN.{length, take, drop, length-append}
use lib.Seq.{take_at}
use lib.Dec.{eqb}
use borrow.Author.Tests.{le-ltb, eqb-true, not-false}
use Rattle.words.specs.Words.{bytes}
use Rattle.words.proofs.Le.{length-bytes}
use Rattle.refusal.specs.Outcome.{Outcome, ok, then}
use Rattle.encoding.specs.Wire.{compact, fixed_at, compact_at}
use Rattle.encoding.proofs.Compact.{length-compact}
use Rattle.encoding.proofs.Back.{Stands, stands-long, stands-both, fixed_back, bytes_back, compact-back}
use Rattle.encoding.proofs.Slice as slice
use Rattle.primitives.specs.Outpoints.{is_null, null_outpoint}
use Rattle.primitives.specs.Theorems as outpoints
use Rattle.primitives.specs.declared.Outpoint.{Outpoint}
use Rattle.primitives.proofs.Theorems.{same-is-equal}
use Rattle.name_state.specs.State.{State, bitmap}
use Rattle.name_state_codec.specs.Written.{has, given, owner_record, texts_bytes, numbers_bytes, held_bytes, times_bytes, record_with, state_bytes}
use Rattle.name_state_codec.specs.Read.{up_to, text_at, texts_at, numbers_at, present, owner_at, amount_at, amounts_at, held_at, times_at, gathered, optional_at, fields_at}
use Rattle.name_state_codec.specs.Theorems.{Sized}
use Rattle.name_state_codec.proofs.Own.{own_bits}
use Rattle.name_state_codec.proofs.Canonical.{bitmap-most}

-- what the bytes of a state must hold, to be read back
pub record Fits (t : State) : Type 0 where
  pub name : length t.name ≤ 63
  pub resource : length t.resource ≤ 512
  pub value : t.value ≤ 9007199254740991
  pub highest : t.highest ≤ 9007199254740991
  pub sized : Sized t

module _ (s : List ℕ) (big : length s + 9 < 2 ^ 64) where
  split : (at : ℕ) (xs ys rest : List ℕ) → Stands s at (xs ++ ys) rest → Stands s at xs (ys ++ rest) × Stands s (at + length xs) ys rest
  split at xs ys rest h = stands-both s at xs ys rest (length xs) refl h

  fixed-b : (n v at : ℕ) (rest : List ℕ) → n ≤ 9 → v < 256 ^ n → Stands s at (bytes n v) rest → fixed_at n s at ≡ ok v (at + length (bytes n v))
  fixed-b n v at rest few small h = fixed_back s n v at rest small (omega (arith, h.0)) h ∙ ap (ok v) (omega (arith, length-bytes n v))

  up-b : (maximum reason v at : ℕ) (rest : List ℕ) → v ≤ maximum → maximum < 2 ^ 64 → Stands s at (compact v) rest
      → then (compact_at s at) (up_to maximum reason) ≡ ok v (at + length (compact v))
  unfolding up_to
  up-b maximum reason v at rest few small h =
      rw (compact-back s v at rest (omega arith) (omega (arith, h.0)) h, le-ltb maximum v few) (ap (ok v) (omega (arith, length-compact v)))

  present-b : {A : Type 0} (b : Bool) (o : Outcome A) (v absent : A) (at : ℕ) (bs rest : List ℕ) → (b ≡ false → v ≡ absent) → (Stands s at bs rest → o ≡ ok v (at + length bs))
      → Stands s at (given b bs) rest → present b o absent at ≡ ok v (at + length (given b bs))
  present-b true o v absent at bs rest z f h = f h
  present-b false o v absent at bs rest z f h = ap₂ ok (sym (z refl)) (omega arith)

  owner-b : (o : Outpoint) (at : ℕ) (rest : List ℕ) → outpoints.Sized o → Stands s at (owner_record o) rest → owner_at s at ≡ ok o (at + length (owner_record o))
  unfolding owner_at
  owner-b o at rest sized h =
      let hash = o.transaction_hash.0 in
      let index = o.index in
      let long : length hash ≡ 32 = sized.hash in
      let p = split at hash (compact index) rest h in
      let w = bytes_back s 32 at hash (compact index ++ rest) long (omega (arith, h.0)) p.0 in
      let k : at + 32 ≡ at + length hash = omega (arith, long) in
      let u = up-b 4294967295 4 index (at + length hash) rest (omega (arith, sized.index)) (omega arith) p.1 in
      rw (w, k, u) (ap (ok o) (omega (arith, length-append hash (compact index))))

  amounts-b : (b v w at : ℕ) (rest : List ℕ) → v ≤ 9007199254740991 → w ≤ 9007199254740991 → (has 2 b ≡ false → v ≡ 0) → (has 4 b ≡ false → w ≡ 0)
      → Stands s at (given (has 2 b) (compact v) ++ given (has 4 b) (compact w)) rest
      → amounts_at b s at ≡ ok (v, w) (at + length (given (has 2 b) (compact v) ++ given (has 4 b) (compact w)))
  unfolding amounts_at amount_at
  amounts-b b v w at rest hv hw zv zw h =
      let xs = given (has 2 b) (compact v) in
      let ys = given (has 4 b) (compact w) in
      let p = split at xs ys rest h in
      let e = present-b (has 2 b) (amount_at s at) v 0 at (compact v) (ys ++ rest) zv (up-b 9007199254740991 6 v at (ys ++ rest) hv (omega arith)) p.0 in
      let f = present-b (has 4 b) (amount_at s (at + length xs)) w 0 (at + length xs) (compact w) rest zw (up-b 9007199254740991 6 w (at + length xs) rest hw (omega arith)) p.1 in
      rw (e, f) (ap (ok (v, w)) (omega (arith, length-append xs ys)))

  held-b : (t : State) (b at : ℕ) (rest : List ℕ) → Fits t → (has 1 b ≡ false → t.owner ≡ null_outpoint) → (has 2 b ≡ false → t.value ≡ 0) → (has 4 b ≡ false → t.highest ≡ 0)
      → Stands s at (held_bytes b t) rest → held_at b s at ≡ ok (t.owner, (t.value, t.highest)) (at + length (held_bytes b t))
  unfolding held_at held_bytes
  held-b t b at rest fits z zv zw h =
      let xs = given (has 1 b) (owner_record t.owner) in
      let ys = given (has 2 b) (compact t.value) ++ given (has 4 b) (compact t.highest) in
      let p = split at xs ys rest h in
      let e = present-b (has 1 b) (owner_at s at) t.owner null_outpoint at (owner_record t.owner) (ys ++ rest) z (owner-b t.owner at (ys ++ rest) fits.sized.owner) p.0 in
      let f = amounts-b b t.value t.highest (at + length xs) rest fits.value fits.highest zv zw p.1 in
      rw (e, f) (ap (ok (t.owner, (t.value, t.highest))) (omega (arith, length-append xs ys)))

  time-b : (w b v at : ℕ) (rest : List ℕ) → v < 2 ^ 32 → (has w b ≡ false → v ≡ 0) → Stands s at (given (has w b) (bytes 4 v)) rest
      → present (has w b) (fixed_at 4 s at) 0 at ≡ ok v (at + length (given (has w b) (bytes 4 v)))
  time-b w b v at rest small z h = present-b (has w b) (fixed_at 4 s at) v 0 at (bytes 4 v) rest z (fixed-b 4 v at rest (omega arith) small) h

  times-b : (t : State) (b at : ℕ) (rest : List ℕ) → Fits t → (has 8 b ≡ false → t.transfer ≡ 0) → (has 16 b ≡ false → t.revoked ≡ 0) → (has 32 b ≡ false → t.claimed ≡ 0) → (has 64 b ≡ false → t.renewals ≡ 0)
      → Stands s at (times_bytes b t) rest → times_at b s at ≡ ok (t.transfer, t.revoked, t.claimed, t.renewals) (at + length (times_bytes b t))
  unfolding times_at times_bytes
  times-b t b at rest fits zx zr zc zn h =
      let x = given (has 8 b) (bytes 4 t.transfer) in
      let r = given (has 16 b) (bytes 4 t.revoked) in
      let c = given (has 32 b) (bytes 4 t.claimed) in
      let n = given (has 64 b) (compact t.renewals) in
      let p₃ = split at (x ++ r ++ c) n rest h in
      let p₂ = split at (x ++ r) c (n ++ rest) p₃.0 in
      let p₁ = split at x r (c ++ (n ++ rest)) p₂.0 in
      let l₁ = length-append x r in
      let l₂ = length-append (x ++ r) c in
      let l₃ = length-append (x ++ r ++ c) n in
      let k₂ : at + length x + length r ≡ at + length (x ++ r) = omega (arith, l₁) in
      let k₃ : at + length (x ++ r) + length c ≡ at + length (x ++ r ++ c) = omega (arith, l₂) in
      let e = time-b 8 b t.transfer at (r ++ (c ++ (n ++ rest))) fits.sized.transfer zx p₁.0 in
      let f = time-b 16 b t.revoked (at + length x) (c ++ (n ++ rest)) fits.sized.revoked zr p₁.1 in
      let g = time-b 32 b t.claimed (at + length (x ++ r)) (n ++ rest) fits.sized.claimed zc p₂.1 in
      let i = present-b (has 64 b) (then (compact_at s (at + length (x ++ r ++ c))) (up_to 4294967295 5)) t.renewals 0 (at + length (x ++ r ++ c)) (compact t.renewals) rest zn (up-b 4294967295 5 t.renewals (at + length (x ++ r ++ c)) rest (omega (arith, fits.sized.renewals)) (omega arith)) p₃.1 in
      rw (e, f, k₂, g, k₃, i) (ap (ok (t.transfer, t.revoked, t.claimed, t.renewals)) (omega (arith, l₃)))

  -- a text: it is found where it was put
  text-b : (width maximum reason : ℕ) (body : List ℕ) (at : ℕ) (rest : List ℕ) → width ≤ 9 → length body ≤ maximum → maximum < 256 ^ width → Stands s at (bytes width (length body) ++ body) rest
      → (text_at width maximum reason s at ≡ ok (at + width, length body) (at + length (bytes width (length body) ++ body))) × (take (length body) (drop (at + width) s) ≡ body)
  unfolding text_at up_to
  text-b width maximum reason body at rest few short small h =
      let n = length body in
      let l = length-append (bytes width n) body in
      let lb = length-bytes width n in
      let p = split at (bytes width n) body rest h in
      let e = fixed-b width n at (body ++ rest) few (omega arith) p.0 in
      let k : at + length (bytes width n) ≡ at + width = omega (arith, lb) in
      let st : Stands s (at + width) body rest = rw (← k) p.1 in
      let w = slice.within n s (at + width) (omega (arith, stands-long s (at + width) body rest st)) (omega (arith, stands-long s (at + width) body rest st)) in
      (rw (e, k, le-ltb maximum n short, w) (ap (ok (at + width, n)) (omega (arith, l, lb))), ap (take n) st.1 ∙ take_at body rest n refl)

  numbers-b : (t : State) (b at : ℕ) (rest : List ℕ) → Fits t → b ≤ 1023 → Stands s at (numbers_bytes b t) rest → numbers_at s at ≡ ok (t.height, t.renewal, b) (at + length (numbers_bytes b t))
  unfolding numbers_at numbers_bytes up_to
  numbers-b t b at rest fits few h =
      let x = bytes 4 t.height in
      let y = bytes 4 t.renewal in
      let z = bytes 2 b in
      let p₂ = split at (x ++ y) z rest h in
      let p₁ = split at x y (z ++ rest) p₂.0 in
      let l₁ = length-append x y in
      let l₂ = length-append (x ++ y) z in
      let k : at + length x + length y ≡ at + length (x ++ y) = omega (arith, l₁) in
      let e = fixed-b 4 t.height at (y ++ (z ++ rest)) (omega arith) fits.sized.height p₁.0 in
      let f = fixed-b 4 t.renewal (at + length x) (z ++ rest) (omega arith) fits.sized.renewal p₁.1 in
      let g = fixed-b 2 b (at + length (x ++ y)) rest (omega arith) (omega arith) p₂.1 in
      rw (e, f, k, g, le-ltb 1023 b few) (ap (ok (t.height, t.renewal, b)) (omega (arith, l₂)))

-- a field whose bit is not set is zero, or null
unset : (v : ℕ) {x : Bool} → x ≡ not (eqb v 0) → x ≡ false → v ≡ 0
unset v e f = eqb-true v 0 (not-false (eqb v 0) (sym e ∙ f))

null-owner : (o : Outpoint) {x : Bool} → x ≡ not (is_null o) → x ≡ false → o ≡ null_outpoint
unfolding is_null
null-owner o e f = (same-is-equal o null_outpoint).0 (not-false (is_null o) (sym e ∙ f))

-- the fields of a record, read where it stands
pub fields_back : (s : List ℕ) → length s + 9 < 2 ^ 64 → (t : State) (at : ℕ) (rest : List ℕ) → Fits t → Stands s at (state_bytes t) rest
    → fields_at t.key s at ≡ ok (bitmap t, t) (at + length (state_bytes t))
unfolding fields_at texts_at optional_at gathered state_bytes record_with texts_bytes
fields_back s big t at rest fits h =
    let b = bitmap t in
    let H = own_bits t in
    let N = bytes 1 (length t.name) ++ t.name in
    let R = bytes 2 (length t.resource) ++ t.resource in
    let X = numbers_bytes b t in
    let Y = held_bytes b t in
    let Z = times_bytes b t in
    let p₃ = split s big at (N ++ R ++ X) (Y ++ Z) rest h in
    let p₄ = split s big (at + length (N ++ R ++ X)) Y Z rest p₃.1 in
    let p₂ = split s big at (N ++ R) X (Y ++ Z ++ rest) p₃.0 in
    let p₁ = split s big at N R (X ++ (Y ++ Z ++ rest)) p₂.0 in
    let l₁ = length-append N R in
    let l₂ = length-append (N ++ R) X in
    let l₃ = length-append (N ++ R ++ X) (Y ++ Z) in
    let l₄ = length-append Y Z in
    let A = text-b s big 1 63 1 t.name at (R ++ (X ++ (Y ++ Z ++ rest))) (omega arith) fits.name (omega arith) p₁.0 in
    let B = text-b s big 2 512 2 t.resource (at + length N) (X ++ (Y ++ Z ++ rest)) (omega arith) fits.resource (omega arith) p₁.1 in
    let k₂ : at + length N + length R ≡ at + length (N ++ R) = omega (arith, l₁) in
    let k₃ : at + length (N ++ R) + length X ≡ at + length (N ++ R ++ X) = omega (arith, l₂) in
    let C = numbers-b s big t b (at + length (N ++ R)) (Y ++ Z ++ rest) fits (bitmap-most t) p₂.1 in
    let D = held-b s big t b (at + length (N ++ R ++ X)) (Z ++ rest) fits (null-owner t.owner H.owner) (unset t.value H.value) (unset t.highest H.highest) p₄.0 in
    let E = times-b s big t b (at + length (N ++ R ++ X) + length Y) rest fits (unset t.transfer H.transfer) (unset t.revoked H.revoked) (unset t.claimed H.claimed) (unset t.renewals H.renewals) p₄.1 in
    rw (A.0, B.0, k₂, C, k₃, D, E, A.1, B.1, H.registered, H.expired, H.weak) (ap (ok (b, t)) (omega (arith, l₃, l₄)))
