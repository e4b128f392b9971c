-- Numbers as lists of bytes: the lowest byte first (document 01, module 1: "Integers are little-endian"), or the
-- highest first (document 01, "Sheets and reports": "most significant first").
use Rattle.std.specs.Prelude.{ℕ, zero, suc, ◌+◌, ◌*◌, ◌/◌, ◌%◌, ◌^◌, ◌<◌, List, [], ◌∷◌, take, drop, get_or}

-- the number that bytes spell
unfoldable pub le : List ℕ → ℕ
le [] = 0
le (b ∷ bs) = b + 256 * le bs

-- the n lowest bytes of a number
unfoldable pub bytes : ℕ → ℕ → List ℕ
bytes zero v = []
bytes (suc n) v = v % 256 ∷ bytes n (v / 256)

-- the number that bytes spell after v, the highest byte first
unfoldable pub spell : ℕ → List ℕ → ℕ
spell v [] = v
spell v (b ∷ bs) = spell (v * 256 + b) bs

abbrev pub be : List ℕ → ℕ
be bs = spell 0 bs

-- the n bytes of a number, the highest first
unfoldable pub be_bytes : ℕ → ℕ → List ℕ
be_bytes zero v = []
be_bytes (suc n) v = v / 256 ^ n % 256 ∷ be_bytes n v

-- the first n words of eight bytes; bytes past the end count as zeros
unfoldable pub lanes : ℕ → List ℕ → List ℕ
lanes zero p = []
lanes (suc n) p = le (take 8 p) ∷ lanes n (drop 8 p)

-- a list whose elements are bytes
abbrev pub Bytes : List ℕ → Type 0
Bytes s = (i : ℕ) → get_or s i 0 < 256
