-- What reading and writing come to, in the document's numbers.
use Rattle.std.specs.Prelude.{ℕ, zero, suc, List, [], ◌∷◌}
use Rattle.words.specs.Buffers.{over}

-- what a refused read says of its place: the position where the reader then stands
abbrev pub Stand : Type 0
Stand = ℕ

abbrev pub position_of : Stand → ℕ
position_of p = p

-- a read: a value, and the position of the byte after it; or a refusal's number, what it carries, and where the reader
-- then stands (document 01: "A refused read, sheets apart, also returns the position where the Rust's `Decoder` then
-- stands")
pub data Outcome (A : Type 0) : Type 0 where
  ok : A → ℕ → Outcome A
  err : ℕ → List ℕ → Stand → Outcome A

-- one read and then, where it was not refused, another
abbrev pub then : {A B : Type 0} → Outcome A → (A → ℕ → Outcome B) → Outcome B
then (ok a p) f = f a p
then (err k vs p) f = err k vs p

-- only where a read ends
abbrev pub past : {A : Type 0} → Outcome A → Outcome Unit
past o = then o (λ a next. ok tt next)

-- the refusal's number, 0 where there is none
abbrev pub refused_by : {A : Type 0} → Outcome A → ℕ
refused_by (ok a p) = 0
refused_by (err k vs p) = k

-- n reads of the same kind, one after the other
unfoldable pub many_at : {A : Type 0} → (ℕ → Outcome A) → ℕ → ℕ → Outcome (List A)
many_at read zero at = ok [] at
many_at read (suc n) at = then (read at) (λ x next. then (many_at read n next) (λ xs end. ok (x ∷ xs) end))

-- what was read, or nothing
abbrev pub list_of : {A : Type 0} → Outcome (List A) → List A
list_of (ok xs end) = xs
list_of (err k vs p) = []

-- a write: how many bytes were written, or a refusal's number and what it carries
pub data Wrote : Type 0 where
  wrote : ℕ → Wrote
  refused : ℕ → List ℕ → Wrote

-- one check of a writer and then, where it was not refused, what comes after it
abbrev pub next : Wrote → (ℕ → Wrote) → Wrote
next (wrote n) f = f n
next (refused k vs) f = refused k vs

-- "A write fills exactly the first n bytes and returns n; the rest is untouched"; a refused one touches nothing
abbrev pub filled : Wrote → List ℕ → List ℕ → List ℕ
filled (wrote n) bs d = over 0 bs d
filled (refused k vs) bs d = d
