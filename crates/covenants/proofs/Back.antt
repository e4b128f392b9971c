-- Reading back what was written: the kind, and each item where it was put.
use mathlib.Core.Path.{◌≡◌, refl, ap, sym, ◌∙◌}
use Prim.Native.Nat.{ℕ, ◌+◌, ◌-◌, ◌≤◌, ◌<◌}
use native.Mathlib.Omega.{arith}
use native.Mathlib.Nat.{mod-eq_of_lt}
use mathlib.Core.List.{List, ◌++◌}
use lib.ListN.{length, take, drop, length-append}
use lib.Seq.{take_at}
use borrow.Author.Tests.{le-ltb}
use Rattle.words.specs.Words.{bytes}
use Rattle.refusal.specs.Outcome.{ok, many_at}
use Rattle.encoding.specs.Wire.{inside, compact, compact_size, varbytes}
use Rattle.encoding.specs.Joined.{joined}
use Rattle.encoding.specs.Theorems.{Lent}
use Rattle.encoding.proofs.Back.{Stands, stands-both, stands-long, slice_back, fixed_back, most-back, EachBack, many-back}
use Rattle.encoding.proofs.Compact.{length-compact, length-varbytes}
use Rattle.covenants.specs.Covenant.{allowed, item_at, head_at, Reading, opening, body_at, covenant_at, bytes_in, contents}
use Rattle.covenants.specs.Written.{covenant_bytes, items_size, covenant_size}
use Rattle.covenants.specs.Theorems.{Short}
use Rattle.covenants.proofs.Checks.{items-long}

-- a covenant that was read back: what was read, to its end
pub record Again (s : List ℕ) (kind : ℕ) (items : List (List ℕ)) (at : ℕ) : Type 0 where
  pub reading : Reading
  pub reads : covenant_at 1000009 s at ≡ ok reading (at + covenant_size items)
  pub same_kind : reading.kind ≡ kind
  pub same-items : contents s reading.items ≡ items
  pub used : reading.used ≡ covenant_size items

module _ (s : List ℕ) (big : Lent s) where
  module _ (start allowance : ℕ) where
    -- one item
    item_back : (item : List ℕ) (at : ℕ) (rest : List ℕ) → length item ≤ 1000000 → start ≤ at → at - start + (compact_size (length item) + length item) ≤ allowance
        → Stands s at (varbytes item) rest
        → (item_at allowance start s at ≡ ok (at + compact_size (length item), length item) (at + (compact_size (length item) + length item)))
        × (take (length item) (drop (at + compact_size (length item)) s) ≡ item)
    unfolding allowed item_at varbytes
    item_back item at rest small later room h =
        let n : ℕ = length item in
        let k : ℕ = compact_size n in
        let two = stands-both s at (compact n) item rest k (length-compact n) h in
        let long = stands-long s (at + k) item rest two.1 in
        let e = most-back s 1000000 n at (item ++ rest) small (omega arith) (omega (arith, h.0)) two.0 in
        let w = slice_back s n (at + k) item rest refl (omega arith) two.1 in
        let end : at + k + n ≡ at + (k + n) = omega arith in (
          rw (e, le-ltb allowance (at + k - start) (omega arith), le-ltb (allowance - (at + k - start)) n (omega arith), w) (ap (ok (at + k, n)) end),
          ap (take n) two.1.1 ∙ take_at item rest n refl,
        )

    -- the items from a place on are within the allowance
    abbrev Fits : ℕ → List (List ℕ) → Type 0
    Fits at items = Short items × (start ≤ at) × (at - start + items_size items ≤ allowance)

    -- items, one after the other
    each_back : EachBack s (item_at allowance start s) varbytes (bytes_in s) Fits
    unfolding items_size
    each_back = record {
      first =
          λ at item items rest fits h.
          let one = item_back item at rest fits.0.0 fits.1 (omega (arith, fits.2)) h in
          let end = length-varbytes item refl in
          ((at + compact_size (length item), length item), one.0 ∙ ap (λ k. ok (at + compact_size (length item), length item) (at + k)) (sym end), one.1);
      others = λ at item items fits. let size = length-varbytes item refl in (fits.0.1, omega (arith, fits.1), omega (arith, fits.1, fits.2));
    }

    items_back : (items : List (List ℕ)) (at : ℕ) (rest : List ℕ) → Fits at items → Stands s at (joined varbytes items) rest
        → (parts : List (ℕ × ℕ)) × (many_at (item_at allowance start s) (length items) at ≡ ok parts (at + items_size items)) × (contents s parts ≡ items)
    items_back items at rest fits h =
        let w = many-back each_back at items rest fits h in
        (w.0, w.1 ∙ ap (λ k. ok w.0 (at + k)) (items-long items), w.2)

  pub covenant-back : (kind : ℕ) (items : List (List ℕ)) (at : ℕ) (rest : List ℕ) → kind < 256 → length items ≤ 1000 → Short items → covenant_size items ≤ 1000009
      → Stands s at (covenant_bytes kind items) rest → Again s kind items at
  unfolding bytes covenant_bytes covenant_size covenant_at opening inside body_at head_at allowed
  covenant-back kind items at rest byte few short room h =
      let n : ℕ = length items in
      let k : ℕ = compact_size n in
      let xs : List ℕ = joined varbytes items in
      let long : length (compact n ++ xs) ≡ k + items_size items = length-append (compact n) xs ∙ omega (arith, length-compact n, items-long items) in
      let parts = stands-both s at (bytes 1 kind) (compact n ++ xs) rest 1 refl (h.0, rw mod-eq_of_lt h.1) in
      let inner = stands-both s (at + 1) (compact n) xs rest k (length-compact n) parts.1 in
      let whole = stands-long s (at + 1) (compact n ++ xs) rest parts.1 in
      let a = fixed_back s 1 kind at ((compact n ++ xs) ++ rest) byte (omega arith) parts.0 in
      let b = most-back s 1000 n (at + 1) (xs ++ rest) few (omega arith) (omega arith) inner.0 in
      let d = items_back at 1000009 items (at + 1 + k) rest (short, omega arith, omega arith) inner.1 in
      let end : at + 1 + k + items_size items ≡ at + (1 + k + items_size items) = omega arith in
      let size : at + (1 + k + items_size items) - at ≡ 1 + k + items_size items = omega arith in
      record {
        reading = record { kind = kind; items = d.0; used = 1 + k + items_size items };
        reads = rw (le-ltb (length s) at h.0, a, b, le-ltb 1000009 (at + 1 + k - at) (omega arith), d.1, end, size);
        same_kind = refl;
        same-items = d.2;
        used = refl;
      }
