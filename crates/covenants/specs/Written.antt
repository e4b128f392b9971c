-- Writing a covenant: document 01, module 4.
use Rattle.std.specs.Prelude.{ℕ, zero, suc, ◌+◌, ◌≤◌, Bool, ◌&&◌, List, [], ◌∷◌, ◌++◌, length, get_or, ltb, leb}
use Rattle.words.specs.Buffers.{pick, over}
use Rattle.refusal.specs.Outcome.{Wrote, wrote, refused, next, filled}
use Rattle.encoding.specs.Wire.{compact, compact_size, varbytes, put_answer}
use Rattle.encoding.specs.Joined.{All, joined}
use Rattle.covenants.specs.Covenant.{max_items, max_item_size, max_encoded_size, contents}

-- ---- the bytes of a covenant, by its kind and its items

-- "Kind byte; compact count, .. and each item a compact length, .. then its bytes"
unfoldable pub covenant_bytes : ℕ → List (List ℕ) → List ℕ
covenant_bytes kind items = kind ∷ (compact (length items) ++ joined varbytes items)

-- how many bytes those are: the size over kind and items
unfoldable pub items_size : List (List ℕ) → ℕ
items_size [] = 0
items_size (item ∷ items) = compact_size (length item) + length item + items_size items

unfoldable pub covenant_size : List (List ℕ) → ℕ
covenant_size items = 1 + compact_size (length items) + items_size items

-- ---- the writer, from a flat directory of starts and lengths over a source

-- n entries of the directory, from the i-th on
unfoldable pub parts : List ℕ → List ℕ → ℕ → ℕ → List (ℕ × ℕ)
parts starts lens i zero = []
parts starts lens i (suc n) = (get_or starts i 0, get_or lens i 0) ∷ parts starts lens (suc i) n

-- "the first item whose start plus length is above the source's length (30)"; the items are counted from i
unfoldable pub held_from : ℕ → ℕ → List (ℕ × ℕ) → Wrote
held_from size i [] = wrote 0
held_from size i (p ∷ ps) = pick (ltb size (p.0 + p.1)) (refused 30 (i ∷ [])) (held_from size (suc i) ps)

-- each of the items lies within a source of so many bytes
abbrev pub Held : ℕ → List (ℕ × ℕ) → Type 0
Held size ps = All (λ (p : ℕ × ℕ). p.0 + p.1 ≤ size) ps

-- "then items in order: length (5), running size (5)", after so many bytes
unfoldable pub size_from : ℕ → List (ℕ × ℕ) → Wrote
size_from used [] = wrote used
size_from used (p ∷ ps) =
    pick (ltb max_item_size p.1) (refused 5 (p.1 ∷ max_item_size ∷ []))
    (pick (ltb max_encoded_size (used + compact_size p.1 + p.1)) (refused 5 ((used + compact_size p.1 + p.1) ∷ max_encoded_size ∷ []))
    (size_from (used + compact_size p.1 + p.1) ps))

-- "Writing: count (5), then the first item ..": the size, or the first of these refusals
unfoldable pub size_answer : List ℕ → List ℕ → List ℕ → ℕ → Wrote
size_answer source starts lens count =
    pick (ltb max_items count) (refused 5 (count ∷ max_items ∷ []))
    (next (held_from (length source) 0 (parts starts lens 0 count))
    (λ nothing. size_from (1 + compact_size count) (parts starts lens 0 count)))

-- what the directory says to write
abbrev pub directory_bytes : ℕ → List ℕ → List ℕ → List ℕ → ℕ → List ℕ
directory_bytes kind source starts lens count = covenant_bytes kind (contents source (parts starts lens 0 count))

-- ".. then 29"
unfoldable pub encode_answer : ℕ → List ℕ → List ℕ → List ℕ → ℕ → List ℕ → Wrote
encode_answer kind source starts lens count d =
    next (size_answer source starts lens count) (λ size. put_answer 0 (directory_bytes kind source starts lens count) d)

unfoldable pub encode_content : ℕ → List ℕ → List ℕ → List ℕ → ℕ → List ℕ → List ℕ
unfolding encode_answer
encode_content kind source starts lens count d =
    filled (encode_answer kind source starts lens count d) (directory_bytes kind source starts lens count) d

-- ---- the writer, from a table of the items of many covenants: those of this one are its entries from first on

-- an item is held where its entry stands in both lists, and its start plus length is not above the source's length
unfoldable pub entry_held : ℕ → List ℕ → List ℕ → ℕ → Bool
entry_held size starts lens entry = ltb entry (length starts) && (ltb entry (length lens) && leb (get_or starts entry 0 + get_or lens entry 0) size)

-- "the first item whose start plus length is above the source's length (30)", or whose entry is past the end: of n
-- items, counted from i
unfoldable pub table_held : ℕ → List ℕ → List ℕ → ℕ → ℕ → ℕ → Wrote
table_held size starts lens first i zero = wrote 0
table_held size starts lens first i (suc n) =
    pick (entry_held size starts lens (first + i)) (table_held size starts lens first (suc i) n) (refused 30 (i ∷ []))

-- "Writing: count (5), then the first item .. (30), then items in order: length (5), running size (5)"
unfoldable pub table_size : List ℕ → List ℕ → List ℕ → ℕ → ℕ → Wrote
table_size source starts lens first count =
    pick (ltb max_items count) (refused 5 (count ∷ max_items ∷ []))
    (next (table_held (length source) starts lens first 0 count)
    (λ nothing. size_from (1 + compact_size count) (parts starts lens first count)))

-- what the table says to write
abbrev pub table_bytes : ℕ → List ℕ → List ℕ → List ℕ → ℕ → ℕ → List ℕ
table_bytes kind source starts lens first count = covenant_bytes kind (contents source (parts starts lens first count))

-- ".. then 29", where the covenant is to stand from at on
unfoldable pub table_answer : ℕ → ℕ → List ℕ → List ℕ → List ℕ → ℕ → ℕ → List ℕ → Wrote
table_answer at kind source starts lens first count d =
    next (table_size source starts lens first count) (λ size. put_answer at (table_bytes kind source starts lens first count) d)

-- bytes from at on where they were written, and nothing touched where not
abbrev pub filled_from : Wrote → ℕ → List ℕ → List ℕ → List ℕ
filled_from (wrote n) at bs d = over at bs d
filled_from (refused k vs) at bs d = d

unfoldable pub table_content : ℕ → ℕ → List ℕ → List ℕ → List ℕ → ℕ → ℕ → List ℕ → List ℕ
unfolding table_answer
table_content at kind source starts lens first count d =
    filled_from (table_answer at kind source starts lens first count d) at (table_bytes kind source starts lens first count) d
