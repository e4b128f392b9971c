-- Demand 3 over any prefix-free writing: what is written without gaps has one reading. The statement; its proof is in
-- proofs/OneReading.antt.
use Rattle.std.specs.Prelude.{◌≡◌, ℕ, ◌<◌, List, ◌++◌, length}
use Rattle.encoding.specs.Joined.{All, joined}

-- a prefix-free writing of good things: what begins alike, whatever follows, is the same thing, and what follows is the
-- same; and none is empty
pub record PrefixFree {A : Type 0} (Good : A → Type 0) (bytes : A → List ℕ) : Type 0 where
  pub alike : (x y : A) (rest rest' : List ℕ) → Good x → Good y → bytes x ++ rest ≡ bytes y ++ rest' → (x ≡ y) × (rest ≡ rest')
  pub filled : (x : A) → Good x → 0 < length (bytes x)

-- of two lists written without gaps, if the bytes of one begin the bytes of the other, its things are the first things
-- of the other
abbrev pub OneReading : {A : Type 0} → (A → Type 0) → (A → List ℕ) → Type 0
OneReading {A} Good bytes =
    (xs ys : List A) (rest : List ℕ) → All Good xs → All Good ys → joined bytes xs ++ rest ≡ joined bytes ys → (more : List A) × (ys ≡ xs ++ more)

abbrev pub PrefixFreeHasOneReading : Type 1
PrefixFreeHasOneReading = (A : Type 0) (Good : A → Type 0) (bytes : A → List ℕ) → PrefixFree Good bytes → OneReading Good bytes
