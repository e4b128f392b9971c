-- What is put reads back, and a compact size has one reading. The statements; their proofs are in proofs/Theorems.antt.
use Rattle.std.specs.Prelude.{◌≡◌, ℕ, ◌+◌, ◌^◌, ◌≤◌, ◌<◌, List, ◌++◌, length, drop}
use Rattle.words.specs.Words.{bytes}
use Rattle.refusal.specs.Outcome.{ok}
use Rattle.encoding.specs.Wire.{fixed_at, bytes_at, compact_at, compact, compact_size, varbytes_at, varbytes}

-- lent bytes are fewer than 2^63; what follows is said of fewer than 2^64 - 9
abbrev pub Lent : List ℕ → Type 0
Lent s = length s + 9 < 2 ^ 64

-- a number of n bytes, put after some bytes and before others, reads back, and the others are what is left
abbrev pub FixedReadsBack : Type 0
FixedReadsBack =
    (n v : ℕ) (before rest : List ℕ) → v < 256 ^ n → Lent (before ++ (bytes n v ++ rest))
    → (fixed_at n (before ++ (bytes n v ++ rest)) (length before) ≡ ok v (length before + n)) × (drop (length before + n) (before ++ (bytes n v ++ rest)) ≡ rest)

-- so do bytes
abbrev pub BytesReadBack : Type 0
BytesReadBack =
    (bs before rest : List ℕ) → Lent (before ++ (bs ++ rest))
    → (bytes_at (length bs) (before ++ (bs ++ rest)) (length before) ≡ ok bs (length before + length bs)) × (drop (length before + length bs) (before ++ (bs ++ rest)) ≡ rest)

-- so does a compact size
abbrev pub CompactReadsBack : Type 0
CompactReadsBack =
    (v : ℕ) (before rest : List ℕ) → v < 2 ^ 64 → Lent (before ++ (compact v ++ rest))
    → (compact_at (before ++ (compact v ++ rest)) (length before) ≡ ok v (length before + compact_size v)) × (drop (length before + compact_size v) (before ++ (compact v ++ rest)) ≡ rest)

-- so do bytes after their length: their place is found, they stand there, and the others are what is left
abbrev pub VarbytesReadBack : Type 0
VarbytesReadBack =
    (maximum : ℕ) (bs before rest : List ℕ) → length bs ≤ maximum → Lent (before ++ (varbytes bs ++ rest))
    → (start : ℕ) × (varbytes_at maximum (before ++ (varbytes bs ++ rest)) (length before) ≡ ok (start, length bs) (start + length bs))
    × (drop start (before ++ (varbytes bs ++ rest)) ≡ bs ++ rest)

-- a compact size that begins another is it
abbrev pub CompactBegins : Type 0
CompactBegins = (v w : ℕ) (rest : List ℕ) → v < 2 ^ 64 → w < 2 ^ 64 → compact v ++ rest ≡ compact w → v ≡ w
