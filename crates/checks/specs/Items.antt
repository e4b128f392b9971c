-- Items 0 and 1 of a spent and a created covenant, the name hash and the start height: where they stand, and which of
-- them is malformed.
use Rattle.std.specs.Prelude.{ℕ, ◌+◌, List, eqb, Result, Ok, Err}
use Rattle.std.proofs.Math.Option.{Option, some, none}
use Rattle.words.specs.Buffers.{pick}
use Rattle.encoding.specs.declared.read.Span.{Span}
use Rattle.covenants.specs.Items.{seek_at}
use Rattle.checks.specs.declared.Items.{Items}
use Rattle.checks.specs.declared.Pair.{Pair}

-- where an item stands and how long it is: zeros where there is none
abbrev pub placed : Option (ℕ × ℕ) → Span
placed (some part) = record { start = part.0; len = part.1 }
placed none = record { start = 0; len = 0 }

-- items 0 and 1 of the covenant that stands at a place
abbrev pub items_at : List ℕ → ℕ → Items
items_at s at = record { name = placed (seek_at s at 0); height = placed (seek_at s at 1) }

-- two items, so many bytes each; or the field of 15: the first for what is spent, the next for what is created
abbrev pub sized_pair : ℕ → ℕ → Span → Span → Result Pair ℕ
sized_pair width field spent created =
    pick (eqb spent.len width)
    (pick (eqb created.len width) (Ok (record { spent = spent.start; created = created.start; width = width })) (Err (field + 1)))
    (Err field)

-- "item 0 spent, item 0 created (32 bytes each, 15) .., item 1 spent, item 1 created (4 bytes, 15)". The fields of 15:
-- 1 spent name, 2 created name, 3 spent start, 4 created start. Any k but 0 is item 1
abbrev pub items_pair : Items → Items → ℕ → Result Pair ℕ
items_pair spent created k =
    pick (eqb k 0) (sized_pair 32 1 spent.name created.name) (sized_pair 4 3 spent.height created.height)
