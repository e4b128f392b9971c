-- Reading a covenant: document 01, module 4, on lists of bytes.
use Rattle.std.specs.Prelude.{ℕ, ◌+◌, ◌-◌, min, List, [], ◌∷◌, map, length, take, drop, ltb}
use Rattle.words.specs.Buffers.{pick}
use Rattle.refusal.specs.Outcome.{Outcome, ok, err, then, many_at}
use Rattle.encoding.specs.Wire.{inside, slice_at, fixed_at, compact_most, finish_at}

-- "compact count, at most 1,000, and each item a compact length, at most 1,000,000 (2 when read), then its bytes;
-- 1,000,009 bytes in all"
abbrev pub max_items : ℕ
max_items = 1000

abbrev pub max_item_size : ℕ
max_item_size = 1000000

abbrev pub max_encoded_size : ℕ
max_encoded_size = 1000009

-- "After the count, and after each item's length, more than L consumed gives 5 {consumed, L}"; what is left of L
unfoldable pub allowed : ℕ → ℕ → ℕ → Outcome ℕ
allowed allowance start at =
    pick (ltb allowance (at - start)) (err 5 ((at - start) ∷ allowance ∷ []) at) (ok (allowance - (at - start)) at)

-- "each item a compact length, at most 1,000,000 (2 when read), then its bytes"; ".. then a length above the rest gives
-- 5 {consumed + length, L}; only then may the item meet the end". The item is where its bytes stand: their start and
-- their length
unfoldable pub item_at : ℕ → ℕ → List ℕ → ℕ → Outcome (ℕ × ℕ)
unfolding allowed
item_at allowance start s at =
    then (compact_most max_item_size s at)
    (λ size next.
    then (allowed allowance start next)
    (λ left next.
    pick (ltb left size) (err 5 ((next - start + size) ∷ allowance ∷ []) next) (slice_at size s next)))

-- "Kind byte; compact count, at most 1,000", within the allowance
unfoldable pub head_at : ℕ → List ℕ → ℕ → Outcome (ℕ × ℕ)
unfolding allowed
head_at allowance s at =
    then (fixed_at 1 s at)
    (λ kind next.
    then (compact_most max_items s next)
    (λ count next. then (allowed allowance at next) (λ left next. ok (kind, count) next)))

-- a covenant that was read: its kind, where its items stand, and "The bytes used up from the allowance"
pub record Reading : Type 0 where
  pub kind : ℕ
  pub items : List (ℕ × ℕ)
  pub used : ℕ

-- all items were read
abbrev pub finished : ℕ → ℕ → List (ℕ × ℕ) → ℕ → Outcome Reading
finished kind start items end = ok (record { kind = kind; items = items; used = end - start }) end

-- the kind, and the items one after the other
unfoldable pub body_at : ℕ → List ℕ → ℕ → Outcome Reading
body_at allowance s at =
    then (head_at allowance s at) (λ head next. then (many_at (item_at allowance at s) head.1 next) (finished head.0 at))

-- "Reading with an allowance L (capped at 1,000,009): L below 2 gives 5 {2, L}, reading nothing." A cursor beyond its
-- slice comes "before anything else"
unfoldable pub opening : {A : Type 0} → ℕ → List ℕ → ℕ → Outcome A → Outcome A
unfolding inside
opening allowance s at body = inside s at (pick (ltb allowance 2) (err 5 (2 ∷ allowance ∷ []) at) body)

unfoldable pub covenant_at : ℕ → List ℕ → ℕ → Outcome Reading
covenant_at limit s at = opening (min limit max_encoded_size) s at (body_at (min limit max_encoded_size) s at)

-- "`decode` refuses longer input by 5 first, and trailing bytes last"; the position is "0 before a decoder is made"
unfoldable pub whole_covenant : List ℕ → Outcome Reading
whole_covenant s =
    pick (ltb max_encoded_size (length s)) (err 5 (length s ∷ max_encoded_size ∷ []) 0)
    (then (covenant_at max_encoded_size s 0) (λ c next. then (finish_at s next) (λ nothing next. ok c next)))

-- kind, count and bytes used up
abbrev pub Skimmed : Type 0
Skimmed = ℕ × ℕ × ℕ

-- what is said of a covenant without its directory
abbrev pub skimmed : Outcome Reading → Outcome Skimmed
skimmed o = then o (λ c next. ok (c.kind, length c.items, c.used) next)

-- the bytes of an item, and of all items, that stand in s
abbrev pub bytes_in : List ℕ → ℕ × ℕ → List ℕ
bytes_in s part = take part.1 (drop part.0 s)

abbrev pub contents : List ℕ → List (ℕ × ℕ) → List (List ℕ)
contents s parts = map (bytes_in s) parts
