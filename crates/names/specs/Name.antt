-- Names (document 01, module 5).
use Rattle.std.specs.Prelude.{ℕ, ◌-◌, List, [], ◌∷◌, ◌++◌, Bool, ◌&&◌, ◌||◌, not, length, get_or, leb, eqb}
use Rattle.std.specs.List.{list_all}
use Rattle.words.specs.Buffers.{pick}
use Rattle.words.specs.Sameness.{same}
use Rattle.refusal.specs.Outcome.{Outcome, ok, err}
use Rattle.sha3.specs.Sha3.{sha3}

-- the longest name
abbrev pub max_name_size : ℕ
max_name_size = 63

-- "0-9, a-z": from 48 up to 57, from 97 up to 122
unfoldable pub plain : ℕ → Bool
plain b = (leb 48 b && leb b 57) || (leb 97 b && leb b 122)

-- "`-` and `_`": 45 and 95
unfoldable pub mark : ℕ → Bool
mark b = eqb b 45 || eqb b 95

-- "bytes of 0-9, a-z, with `-` and `_`"
unfoldable pub letters : List ℕ → Bool
letters s = list_all (λ b. plain b || mark b) s

-- the letters of the reserved names
abbrev pub example : List ℕ
example = 101 ∷ 120 ∷ 97 ∷ 109 ∷ 112 ∷ 108 ∷ 101 ∷ []

abbrev pub invalid : List ℕ
invalid = 105 ∷ 110 ∷ 118 ∷ 97 ∷ 108 ∷ 105 ∷ 100 ∷ []

abbrev pub local : List ℕ
local = 108 ∷ 111 ∷ 99 ∷ 97 ∷ 108 ∷ []

abbrev pub localhost : List ℕ
localhost = local ++ (104 ∷ 111 ∷ 115 ∷ 116 ∷ [])

abbrev pub test : List ℕ
test = 116 ∷ 101 ∷ 115 ∷ 116 ∷ []

-- "not example, invalid, local, localhost, test"
unfoldable pub reserved : List ℕ → Bool
reserved s =
    same s example
    || same s invalid
    || same s local
    || same s localhost
    || same s test

-- "1 to 63 bytes of 0-9, a-z, with `-` and `_` neither first nor last; not example, invalid, local, localhost, test"
unfoldable pub valid_name : List ℕ → Bool
valid_name s =
    leb 1 (length s) && leb (length s) max_name_size
    && letters s
    && not (mark (get_or s 0 0)) && not (mark (get_or s (length s - 1) 0))
    && not (reserved s)

-- "Name hash: SHA3-256 of the name, else 6"; nothing is read, so the position is 0
unfoldable pub name_hash : List ℕ → Outcome (List ℕ)
name_hash s = pick (valid_name s) (ok (sha3 s) 0) (err 6 [] 0)
