-- The checks that the rows of the link rules are made of: document 01, "Link rules", on what is spent and what its
-- partner creates. Nothing here knows of sheets.
use Rattle.std.specs.Prelude.{ℕ, ◌+◌, Bool, true, ◌&&◌, List, [], ◌∷◌, length, get_or, ltb, eqb}
use Rattle.words.specs.Buffers.{pick}
use Rattle.words.specs.Sameness.{same}
use Rattle.names.specs.Blind.{blind_of}
use Rattle.sheets.specs.Sheet.{Output}

-- ---- a step: it passes, and whether that links an output; or it breaks a rule, by the rule's number and what that
-- carries

pub data Step : Type 0 where
  passes : Bool → Step
  breaks : ℕ → List ℕ → Step

-- one check and then another: "each fully before the next; the check stops at the first rule broken anywhere"
abbrev pub and_then : Step → Step → Step
and_then (passes n) next = next
and_then (breaks k vs) next = breaks k vs

abbrev pub check : Bool → ℕ → List ℕ → Step
check right k vs = pick right (passes true) (breaks k vs)

-- two addresses are the same: the version and the hash
abbrev pub same_address : ℕ × List ℕ → ℕ × List ℕ → Bool
same_address a b = eqb a.0 b.0 && same a.1 b.1

-- ---- items

-- item k, of a width above 0: else 15, with the input and the field. An item that is not there has no width
abbrev pub sized : ℕ → ℕ → ℕ → ℕ → List (List ℕ) → (List ℕ → Step) → Step
sized input field width k items next = pick (eqb (length (get_or items k [])) width) (next (get_or items k [])) (breaks 15 (input ∷ field ∷ []))

-- item k spent, item k created, so many bytes each (15), equal (the number given)
unfoldable pub agree : ℕ → ℕ → ℕ → ℕ → ℕ → List (List ℕ) → List (List ℕ) → Step
agree input k width field number spent created =
    sized input field width k spent (λ a. sized input (field + 1) width k created (λ b. check (same a b) number (input ∷ [])))

-- "Name and start": "item 0 spent, item 0 created (32 bytes each, 15), equal (16), item 1 spent, item 1 created
-- (4 bytes, 15), equal (17)".
-- The fields of 15: 1 spent name, 2 created name, 3 spent start, 4 created start
unfoldable pub name_and_start : ℕ → List (List ℕ) → List (List ℕ) → Step
name_and_start i spent created = and_then (agree i 0 32 1 16 spent created) (agree i 1 4 3 17 spent created)

-- ---- the ends of two rows: the input's number, what is spent, what its partner creates

-- "created item 2, spent item 3, 32 bytes (15); commitment (18)". Fields: 5 reveal nonce, 6 bid commitment
unfoldable pub opened : ℕ → Output → Output → Step
opened i spent made =
    sized i 5 32 2 made.items
    (λ nonce. sized i 6 32 3 spent.items (λ commitment. check (same (blind_of made.value nonce) commitment) 18 (i ∷ [])))

-- Transfer to Finalize: "spent item 2 one byte, item 3 present (15), output address equal to them (23)". Fields:
-- 7 transfer version, 8 transfer hash
unfoldable pub destined : ℕ → Output → Output → Step
destined i spent made =
    sized i 7 1 2 spent.items
    (λ version.
    and_then (check (ltb 3 (length spent.items)) 15 (i ∷ 8 ∷ []))
    (check (same_address made.address (get_or version 0 0, get_or spent.items 3 [])) 23 (i ∷ [])))
