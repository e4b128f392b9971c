-- What a number that was read tells: how large it is, and how far the reader went.
use mathlib.Core.Path.{◌≡◌, ap, sym, ◌∙◌}
use Prim.Native.Nat.{ℕ, ◌+◌, ◌^◌, ◌≤◌, ◌<◌}
use native.Mathlib.Omega.{arith}
use native.Mathlib.Nat.{le_refl}
use mathlib.Core.List.{List}
use mathlib.Core.Bool.{Bool, true, false}
use lib.ListN.{length, take, drop, get_or}
use lib.Seq.{drop-cons}
use lib.Dec.{ltb, eqb}
use borrow.Author.Tests.{lt-ltb, ltb-false}
use Rattle.words.specs.Words.{le, Bytes}
use Rattle.words.specs.Buffers.{pick}
use Rattle.words.proofs.Le.{le-under}
use Rattle.refusal.specs.Outcome.{ok, then}
use Rattle.refusal.proofs.Outcomes.{then_ok, passed}
use Rattle.encoding.specs.Wire.{slice_at, bytes_at, fixed_at, canonical, compact_at, most, compact_most}
use Rattle.encoding.proofs.Slice as slice

-- bytes that were read are those from the start on, and are passed
pub record Taken (n : ℕ) (s : List ℕ) (at : ℕ) (bs : List ℕ) (next : ℕ) : Type 0 where
  pub are : bs ≡ take n (drop at s)
  pub ends : next ≡ at + n
  pub fits : at + n ≤ length s

pub bytes_read : (n : ℕ) (s : List ℕ) (at : ℕ) {bs : List ℕ} {next : ℕ} → length s < 2 ^ 64 → bytes_at n s at ≡ ok bs next → Taken n s at bs next
unfolding bytes_at
bytes_read n s at {bs} {next} big e =
    let w = then_ok (slice_at n s at) e in
    let part = slice.read n s at big w.2 in
    let same : take n (drop w.0.0 s) ≡ bs = cc in
    let goes : w.1 ≡ next = cc in
    record { are = sym same ∙ ap (λ (i : ℕ). take n (drop i s)) part.start; ends = sym goes ∙ part.ends; fits = part.fits }

-- a number of n bytes is below 256 to the n
pub fixed-under : (n : ℕ) (s : List ℕ) (at : ℕ) {v p : ℕ} → Bytes s → fixed_at n s at ≡ ok v p → v < 256 ^ n
unfolding fixed_at bytes_at
fixed-under n s at {v} {p} b e =
    let w = then_ok (bytes_at n s at) e in
    let x = then_ok (slice_at n s at) w.2 in
    let same : take n (drop x.0.0 s) ≡ w.0 = cc in
    let spelled : le w.0 ≡ v = cc in
    omega (arith, ap le same, le-under s x.0.0 n n b (le_refl n))

-- a fixed read passes its bytes
pub fixed-moves : (n : ℕ) (s : List ℕ) (at : ℕ) {v p : ℕ} → length s < 2 ^ 64 → fixed_at n s at ≡ ok v p → (p ≡ at + n) × (p ≤ length s)
unfolding fixed_at
fixed-moves n s at {v} {p} big e =
    let w = then_ok (bytes_at n s at) e in
    let taken = bytes_read n s at big w.2 in
    let same : w.1 ≡ p = cc in
    (omega (arith, taken.ends), omega (arith, taken.ends, taken.fits))

-- a longer form, after its tag
long-moves : (n width least : ℕ) (s : List ℕ) (at : ℕ) {v p : ℕ} → length s < 2 ^ 64 → then (fixed_at n s at) (canonical width least) ≡ ok v p → (at ≤ p) × (p ≤ length s)
unfolding canonical
long-moves n width least s at {v} {p} big e =
    let w = then_ok (fixed_at n s at) e in
    let m = fixed-moves n s at big w.2 in
    let k = (passed (ltb w.0 least) _ _ _ _ w.3).1 in
    let same : w.1 ≡ p = cc in
    (omega arith, omega arith)

-- a compact size passes a byte at least, and stays within
pub compact-moves : (s : List ℕ) (at : ℕ) {v p : ℕ} → length s < 2 ^ 64 → compact_at s at ≡ ok v p → (at < p) × (p ≤ length s)
unfolding compact_at
compact-moves s at {v} {p} big e =
    let w = then_ok (fixed_at 1 s at) e in
    let m = fixed-moves 1 s at big w.2 in
    go (ltb w.0 253) (eqb w.0 253) (eqb w.0 254) w.0 w.1 m w.3
  where
    go : (a b c : Bool) (tag q : ℕ) → (q ≡ at + 1) × (q ≤ length s)
        → pick a (ok tag q) (pick b (then (fixed_at 2 s q) (canonical 16 253)) (pick c (then (fixed_at 4 s q) (canonical 32 65536)) (then (fixed_at 8 s q) (canonical 64 4294967296)))) ≡ ok v p
        → (at < p) × (p ≤ length s)
    go true b c tag q m e = let same : q ≡ p = cc in (omega arith, omega arith)
    go false true c tag q m e = let h = long-moves 2 16 253 s q big e in (omega arith, omega arith)
    go false false true tag q m e = let h = long-moves 4 32 65536 s q big e in (omega arith, omega arith)
    go false false false tag q m e = let h = long-moves 8 64 4294967296 s q big e in (omega arith, omega arith)

pub most-moves : (maximum : ℕ) (s : List ℕ) (at : ℕ) {v p : ℕ} → length s < 2 ^ 64 → compact_most maximum s at ≡ ok v p → (at < p) × (p ≤ length s) × (v ≤ maximum)
unfolding compact_most most
most-moves maximum s at {v} {p} big e =
    let w = then_ok (compact_at s at) e in
    let m = compact-moves s at big w.2 in
    let k = passed (ltb maximum w.0) _ _ _ _ w.3 in
    let f = ltb-false maximum w.0 k.0 in
    let same : w.1 ≡ p = cc in
    let same-v : w.0 ≡ v = cc in
    (omega arith, omega arith, omega arith)

-- a byte is the number that it spells
module _ (s : List ℕ) (at : ℕ) (big : length s < 2 ^ 64) (h : at < length s) where
  byte-spelled : le (take 1 (drop at s)) ≡ get_or s at 0
  unfolding le
  byte-spelled = rw (drop-cons s at 0 h) (omega arith)

  pub byte-read : fixed_at 1 s at ≡ ok (get_or s at 0) (at + 1)
  unfolding fixed_at bytes_at
  byte-read = rw (slice.within 1 s at (omega arith) (omega arith)) (ap (λ v. ok v (at + 1)) byte-spelled)

  -- and a compact size, below 253
  pub compact-byte : get_or s at 0 < 253 → compact_at s at ≡ ok (get_or s at 0) (at + 1)
  unfolding compact_at
  compact-byte k = rw (byte-read, lt-ltb _ _ k)

-- a first byte that was read is a tag, where the byte that stands there is one
pub tag-above : (s : List ℕ) (at : ℕ) {tag p : ℕ} → length s < 2 ^ 64 → (at < length s → 252 < get_or s at 0) → fixed_at 1 s at ≡ ok tag p → 253 ≤ tag
tag-above s at {tag} {p} big above e =
    let m = fixed-moves 1 s at big e in
    let h : at < length s = omega arith in
    let same : get_or s at 0 ≡ tag = cc (byte-read s at big h) in
    omega (arith, above h)
