-- Numbers in decimal, the line of a refusal, and where a text that is put ends. A text is the list of its bytes.
use Rattle.std.specs.Prelude.{ℕ, zero, suc, ◌+◌, ◌/◌, ◌%◌, List, [], ◌∷◌, ◌++◌, length, ltb, leb}
use Rattle.words.specs.Buffers.{pick}

-- the digits of a number of at most so many digits, the highest first; a digit is its byte, from 48 for 0 on
unfoldable pub digits : ℕ → ℕ → List ℕ
digits zero n = []
digits (suc k) n = pick (ltb n 10) ((48 + n) ∷ []) (digits k (n / 10) ++ ((48 + n % 10) ∷ []))

-- a number of 64 bits has at most 20 digits
unfoldable pub decimal : ℕ → List ℕ
unfolding digits
decimal n = digits 20 n

abbrev pub newline : List ℕ
newline = 10 ∷ []

-- "refused "
abbrev pub refused_text : List ℕ
refused_text = 114 ∷ 101 ∷ 102 ∷ 117 ∷ 115 ∷ 101 ∷ 100 ∷ 32 ∷ []

-- "`refused NUMBER`"
abbrev pub refused_line : ℕ → List ℕ
refused_line k = refused_text ++ decimal k ++ newline

-- where bs end that are put from at on in a buffer of n bytes; one past the buffer where they don't fit: nothing fits
-- from there on
unfoldable pub end_of : ℕ → List ℕ → ℕ → ℕ
end_of at bs n = pick (leb (at + length bs) n) (at + length bs) (suc n)
