-- Single items: document 01, module 4, its last two sentences.
use Rattle.std.specs.Prelude.{ℕ, zero, suc, ◌+◌, ◌&&◌, List, [], ◌∷◌, length, take, drop, get_or, ltb, leb, eqb}
use Rattle.std.proofs.Math.Option.{Option, some, none}
use Rattle.words.specs.Words.{le}
use Rattle.words.specs.Buffers.{pick}
use Rattle.refusal.specs.Outcome.{Outcome, ok, err, then, many_at}
use Rattle.covenants.specs.Covenant.{max_items, max_encoded_size, item_at, head_at}

-- "An item past the count or the 1,000th, or outside the source, is absent": the item of a directory, by its start and
-- length
unfoldable pub directory_item : List ℕ → List ℕ → List ℕ → ℕ → ℕ → Option (ℕ × ℕ)
directory_item source starts lens count index =
    pick (ltb index count && ltb index max_items && leb (get_or starts index 0 + get_or lens index 0) (length source))
    (some (get_or starts index 0, get_or lens index 0)) none

-- the n-th of a list of places
unfoldable pub nth : List (ℕ × ℕ) → ℕ → Option (ℕ × ℕ)
nth [] k = none
nth (x ∷ xs) zero = some x
nth (x ∷ xs) (suc k) = nth xs k

-- ---- the item straight from the bytes of a covenant, by a scan

-- the place that was read, if one was
abbrev pub found : Outcome (ℕ × ℕ) → Option (ℕ × ℕ)
found (ok part next) = some part
found (err k vs p) = none

-- "past the count .. is absent"
abbrev pub counted : Outcome (ℕ × ℕ) → ℕ → (ℕ → Option (ℕ × ℕ)) → Option (ℕ × ℕ)
counted (ok head next) index f = pick (ltb index head.1) (f next) none
counted (err k vs p) index f = none

-- the item of the covenant that stands at at, under 1,000,009: its head and the items before this one are read, and
-- nothing after it is
unfoldable pub seek_at : List ℕ → ℕ → ℕ → Option (ℕ × ℕ)
seek_at s at index =
    counted (head_at max_encoded_size s at) index
    (λ first. found (then (many_at (item_at max_encoded_size at s) index first) (λ before next. item_at max_encoded_size at s next)))

-- ---- the width

-- "answer only at width 1, 4, 8 and 32": the bytes of an item of that width, which lies within s
unfoldable pub of_width : ℕ → List ℕ → Option (ℕ × ℕ) → Option (List ℕ)
of_width n s none = none
of_width n s (some part) = pick (eqb part.1 n && leb (part.0 + part.1) (length s)) (some (take n (drop part.0 s))) none

-- and the number that they spell
abbrev pub spelled : Option (List ℕ) → Option ℕ
spelled (some bs) = some (le bs)
spelled none = none

unfoldable pub number_in : ℕ → List ℕ → Option (ℕ × ℕ) → Option ℕ
unfolding of_width
number_in n s item = spelled (of_width n s item)
