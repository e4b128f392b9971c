-- Words of private functions only: a round as the code runs it: G on the four columns, and the diagonals turned into
-- columns and back.
use Rattle.std.specs.Prelude.{ℕ, ◌+◌, ◌<◌, List, [], ◌∷◌, slice_index}
use Rattle.blake2b.specs.Blake2b.{G, word}

-- a row of the schedule: every entry is the number of one of the sixteen words
abbrev pub Row : List ℕ → Type 0
Row s = (i : ℕ) → slice_index s i < 16

-- G on each column, with the words that the row s names from `at` on
unfoldable pub four : List ℕ → List ℕ → ℕ → List ℕ → List ℕ
four m s at v =
    let v0 : List ℕ = G v 0 4 8 12 (word m s at) (word m s (at + 1)) in
    let v1 : List ℕ = G v0 1 5 9 13 (word m s (at + 2)) (word m s (at + 3)) in
    let v2 : List ℕ = G v1 2 6 10 14 (word m s (at + 4)) (word m s (at + 5)) in
    G v2 3 7 11 15 (word m s (at + 6)) (word m s (at + 7))

-- a column of v, which stands row by row
abbrev pub column : List ℕ → ℕ → List ℕ
column v i = slice_index v i ∷ slice_index v (i + 4) ∷ slice_index v (i + 8) ∷ slice_index v (i + 12) ∷ []

-- four columns as one vector
abbrev pub joined : (a b c d : List ℕ) → List ℕ
joined a b c d =
    slice_index a 0 ∷ slice_index b 0 ∷ slice_index c 0 ∷ slice_index d 0
    ∷ slice_index a 1 ∷ slice_index b 1 ∷ slice_index c 1 ∷ slice_index d 1
    ∷ slice_index a 2 ∷ slice_index b 2 ∷ slice_index c 2 ∷ slice_index d 2
    ∷ slice_index a 3 ∷ slice_index b 3 ∷ slice_index c 3 ∷ slice_index d 3
    ∷ []

-- the diagonals of v as columns
abbrev pub turned : List ℕ → List ℕ
turned v =
    slice_index v 0 ∷ slice_index v 1 ∷ slice_index v 2 ∷ slice_index v 3
    ∷ slice_index v 5 ∷ slice_index v 6 ∷ slice_index v 7 ∷ slice_index v 4
    ∷ slice_index v 10 ∷ slice_index v 11 ∷ slice_index v 8 ∷ slice_index v 9
    ∷ slice_index v 15 ∷ slice_index v 12 ∷ slice_index v 13 ∷ slice_index v 14
    ∷ []

-- the columns of v as diagonals
abbrev pub back : List ℕ → List ℕ
back v =
    slice_index v 0 ∷ slice_index v 1 ∷ slice_index v 2 ∷ slice_index v 3
    ∷ slice_index v 7 ∷ slice_index v 4 ∷ slice_index v 5 ∷ slice_index v 6
    ∷ slice_index v 10 ∷ slice_index v 11 ∷ slice_index v 8 ∷ slice_index v 9
    ∷ slice_index v 13 ∷ slice_index v 14 ∷ slice_index v 15 ∷ slice_index v 12
    ∷ []
