-- Words of private functions only, which the contract of no public function has: a directory that is filled item by
-- item, entries that are there, short items.
use Rattle.std.specs.Prelude.{◌≡◌, ℕ, ◌+◌, ◌-◌, ◌≤◌, ◌<◌, List, ◌++◌, map, length, get_or, Result, Ok, Err}
use Rattle.refusal.specs.Outcome.{Outcome, ok, then, many_at, Wrote, wrote, refused}
use Rattle.refusal.specs.Paper.{number_of, carried, stop_paper}
use Rattle.refusal.specs.declared.Refusal.{Refusal}
use Rattle.refusal.specs.declared.Stop.{Stop}
use Rattle.covenants.specs.Covenant.{max_items}
use Rattle.covenants.specs.Paper.{listed}

abbrev pub starts_of : List (ℕ × ℕ) → List ℕ
starts_of = map (λ (i : ℕ × ℕ). i.0)

abbrev pub lens_of : List (ℕ × ℕ) → List ℕ
lens_of = map (λ (i : ℕ × ℕ). i.1)

-- after i of count items: those that were read stand in the directory, and what is left gives the rest of the answer
pub record Filling (read : ℕ → Outcome (ℕ × ℕ)) (start count from : ℕ) (starts lens : List ℕ) (at i : ℕ) : Type 0 where
  pub bound : i ≤ count
  pub few : count ≤ max_items
  pub later : start ≤ at
  pub done : List (ℕ × ℕ)
  pub long : length done ≡ i
  pub firsts : starts ≡ listed (starts_of done)
  pub sizes : lens ≡ listed (lens_of done)
  pub rest : then (many_at read (count - i) at) (λ more end. ok (done ++ more) end) ≡ many_at read count from

-- what is left of an allowance at a place
abbrev pub left_paper : ℕ → Result ℕ Stop → Outcome ℕ
left_paper at (Ok left) = ok left at
left_paper at (Err s) = stop_paper s

-- a test of items that passes, or the item that is refused
abbrev pub held_paper : Result Unit Refusal → Wrote
held_paper (Ok u) = wrote 0
held_paper (Err r) = refused (number_of r) (carried r)

-- so many entries of a list, from the first on, are there
abbrev pub There : List ℕ → ℕ → ℕ → Type 0
There xs first count = (i : ℕ) → i < count → first + i < length xs

-- an item whose length is one byte, and which ends by a place
pub record ShortAt (s : List ℕ) (end at next : ℕ) : Type 0 where
  pub low : get_or s at 0 < 253
  pub goes : next ≡ at + 1 + get_or s at 0
  pub fits : next ≤ end

-- a covenant with two items at least, both there, whose count and whose items' lengths are one byte each
pub record TwoShort (s : List ℕ) (at : ℕ) : Type 0 where
  pub several : 2 ≤ get_or s (at + 1) 0
  pub few : get_or s (at + 1) 0 < 253
  pub first : ShortAt s (length s) (at + 2) (at + 3 + get_or s (at + 2) 0)
  pub second : ShortAt s (length s) (at + 3 + get_or s (at + 2) 0) (at + 3 + get_or s (at + 2) 0 + 1 + get_or s (at + 3 + get_or s (at + 2) 0) 0)
