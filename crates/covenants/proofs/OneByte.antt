-- Items whose length is one byte, and a count that is.
use mathlib.Core.Path.{◌≡◌, refl, ◌∙◌}
use Prim.Native.Nat.{ℕ, ◌+◌, ◌-◌, ◌^◌, ◌≤◌, ◌<◌}
use native.Mathlib.Omega.{arith}
use mathlib.Core.List.{List}
use mathlib.Core.Option.{some}
use lib.ListN.{length, get_or}
use borrow.Author.Tests.{lt-ltb, le-ltb}
use Rattle.refusal.specs.Outcome.{Outcome, ok, past, many_at}
use Rattle.refusal.proofs.Many.{Passing}
use Rattle.encoding.specs.Wire.{most, compact_most}
use Rattle.encoding.proofs.Slice as slice
use Rattle.encoding.proofs.Fixed.{byte-read, compact-byte}
use Rattle.covenants.specs.Covenant.{allowed, item_at, head_at}
use Rattle.covenants.specs.Workers.{ShortAt, TwoShort}
use Rattle.covenants.specs.Items.{seek_at}

-- one that fits the bytes and the allowance is read
pub short-item : (allowance start : ℕ) (s : List ℕ) {end at next : ℕ} → length s < 2 ^ 64 → start ≤ at → ShortAt s end at next → next ≤ length s → next ≤ start + allowance
    → item_at allowance start s at ≡ ok (at + 1, next - (at + 1)) next
unfolding item_at allowed compact_most most
short-item allowance start s {end} {at} {next} big later h fits room =
    let size = get_or s at 0 in
    let n : next - (at + 1) ≡ size = omega (arith, h.goes) in
    let low : size < 253 = h.low in
    rw (compact-byte s at big (omega arith) low, le-ltb 1000000 size (omega arith), le-ltb allowance (at + 1 - start) (omega (arith, h.goes)), le-ltb (allowance - (at + 1 - start)) size (omega (arith, h.goes)), n, h.goes)
    (slice.within size s (at + 1) (omega (arith, h.goes)) (omega (arith, h.goes)))

-- a head whose count is one byte
short-head : (s : List ℕ) (at : ℕ) {count next : ℕ} → length s < 2 ^ 64 → next ≡ at + 2 → next ≤ length s → get_or s (at + 1) 0 ≡ count → count < 253
    → head_at 1000009 s at ≡ ok (get_or s at 0, count) next
unfolding head_at allowed compact_most most
short-head s at {count} {next} big goes fits e short =
    let n : at + 1 + 1 ≡ next = omega arith in
    rw (byte-read s at big (omega arith), compact-byte s (at + 1) big (omega arith) (omega arith), e, le-ltb 1000 count (omega arith), n, le-ltb 1000009 (next - at) (omega arith))

pub two-short : (s : List ℕ) (at : ℕ) {count first next second : ℕ} → count ≡ get_or s (at + 1) 0 → 2 ≤ count → count < 253
    → first ≡ get_or s (at + 2) 0 → first < 253 → next ≡ at + 3 + first → second ≡ get_or s next 0 → second < 253 → second < length s - next → TwoShort s at
two-short s at {count} {first} {next} {second} counted several few one low goes two low' fits =
    let same : at + 3 + get_or s (at + 2) 0 ≡ next = omega arith in
    record {
      several = omega arith;
      few = omega arith;
      first = record { low = omega arith; goes = omega arith; fits = omega arith };
      second = rw same (record { low = omega arith; goes = refl; fits = omega arith });
    }

-- the first two items, where the count and both lengths are one byte
pub short-two : (s : List ℕ) (at : ℕ) {first next : ℕ} → length s < 2 ^ 64 → TwoShort s at → first ≡ get_or s (at + 2) 0 → next ≡ at + 3 + first
    → (some (at + 3, first) ≡ seek_at s at 0) × (some (next + 1, get_or s next 0) ≡ seek_at s at 1)
unfolding seek_at many_at
short-two s at {first} {next} big h one goes =
    let count = get_or s (at + 1) 0 in
    let second = get_or s next 0 in
    let head = short-head s at {count = count} {next = at + 2} big (omega arith) (omega (arith, h.first.goes, h.first.fits)) refl h.few in
    let k : at + 2 + 1 ≡ at + 3 = omega arith in
    let same : at + 3 + get_or s (at + 2) 0 ≡ next = omega arith in
    let n : next - (at + 3) ≡ first = omega arith in
    let n' : next + 1 + second - (next + 1) ≡ second = omega arith in
    let here : item_at 1000009 at s (at + 2) ≡ ok (at + 3, first) next = rw (k, same, n) at (short-item 1000009 at s big (omega arith) h.first h.first.fits (omega (arith, h.first.low))) in
    let later : item_at 1000009 at s next ≡ ok (next + 1, second) (next + 1 + second) = rw (same, n') at (short-item 1000009 at s big (omega arith) h.second h.second.fits (omega (arith, h.first.low, h.second.low))) in
    (rw (head, lt-ltb 0 count (omega (arith, h.several)), here), rw (head, lt-ltb 1 count (omega (arith, h.several)), here, later))

-- a loop that passes items may pass some of them by another
pub onward : {A : Type 0} (read : ℕ → Outcome A) {n from at i at' i' : ℕ} → Passing read n from at i → i' ≤ n → past (many_at read (n - i') at') ≡ past (many_at read (n - i) at)
    → Passing read n from at' i'
onward read r h e = record { bound = h; rest = e ∙ r.rest }
