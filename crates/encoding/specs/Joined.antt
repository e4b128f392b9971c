-- Things of one kind that are written one after the other.
use Rattle.std.specs.Prelude.{ℕ, List, [], ◌∷◌, ◌++◌}

-- each of the things is good
abbrev pub All : {A : Type 0} → (A → Type 0) → List A → Type 0
All Good [] = Unit
All Good (x ∷ xs) = Good x × All Good xs

-- the bytes of things that are "written without gaps"
unfoldable pub joined : {A : Type 0} → (A → List ℕ) → List A → List ℕ
joined bytes [] = []
joined bytes (x ∷ xs) = bytes x ++ joined bytes xs
