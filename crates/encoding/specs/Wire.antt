-- The wire encoding: document 01, module 1, on lists of bytes.
use Rattle.std.specs.Prelude.{ℕ, ◌+◌, ◌-◌, List, [], ◌∷◌, ◌++◌, length, take, drop, ltb, eqb}
use Rattle.words.specs.Words.{le, bytes}
use Rattle.words.specs.Buffers.{pick, fits}
use Rattle.refusal.specs.Outcome.{Outcome, ok, err, then, Wrote, wrote, refused}

-- ---- reads

-- "A cursor beyond its slice .. has 0 remaining": so many bytes are left
unfoldable pub remaining_at : List ℕ → ℕ → ℕ
remaining_at s at = length s - at

-- ".. and gives 1 {position, position - length} before anything else"
unfoldable pub inside : {A : Type 0} → List ℕ → ℕ → Outcome A → Outcome A
inside s at next = pick (ltb (length s) at) (err 1 (at ∷ (at - length s) ∷ []) at) next

-- where the next n bytes stand. "A slice read whose end would pass 2^64 - 1 gives 2 with actual 2^64 - 1 and the
-- remaining length as maximum"; one that is cut off gives 1, and "stays at its start"
unfoldable pub slice_at : ℕ → List ℕ → ℕ → Outcome (ℕ × ℕ)
unfolding inside remaining_at
slice_at n s at =
    inside s at
    (pick (ltb 18446744073709551615 (at + n)) (err 2 (18446744073709551615 ∷ remaining_at s at ∷ []) at)
    (pick (ltb (length s) (at + n)) (err 1 (at ∷ (at + n - length s) ∷ []) at)
    (ok (at, n) (at + n))))

-- the next n bytes themselves
unfoldable pub bytes_at : ℕ → List ℕ → ℕ → Outcome (List ℕ)
bytes_at n s at = then (slice_at n s at) (λ part next. ok (take n (drop part.0 s)) next)

-- the number that the next n bytes spell: "Integers are little-endian"
unfoldable pub fixed_at : ℕ → List ℕ → ℕ → Outcome ℕ
unfolding bytes_at
fixed_at n s at = then (bytes_at n s at) (λ bs next. ok (le bs) next)

-- "A longer form than needed is refused by 4", with the width of the form, and "a noncanonical compact size has been
-- passed"
unfoldable pub canonical : ℕ → ℕ → ℕ → ℕ → Outcome ℕ
canonical width least v next = pick (ltb v least) (err 4 (width ∷ []) next) (ok v next)

-- "Compact size: one byte to 252; `fd` and 2 bytes for 253 to 65,535; `fe` and 4 to 2^32 - 1; `ff` and 8 above"
unfoldable pub compact_at : List ℕ → ℕ → Outcome ℕ
compact_at s at =
    then (fixed_at 1 s at)
    (λ tag next.
    pick (ltb tag 253) (ok tag next)
    (pick (eqb tag 253) (then (fixed_at 2 s next) (canonical 16 253))
    (pick (eqb tag 254) (then (fixed_at 4 s next) (canonical 32 65536))
    (then (fixed_at 8 s next) (canonical 64 4294967296)))))

-- a length above its maximum is refused by 2 {actual, maximum}
unfoldable pub most : ℕ → ℕ → ℕ → Outcome ℕ
most maximum v next = pick (ltb maximum v) (err 2 (v ∷ maximum ∷ []) next) (ok v next)

-- a compact size of at most maximum
unfoldable pub compact_most : ℕ → List ℕ → ℕ → Outcome ℕ
compact_most maximum s at = then (compact_at s at) (most maximum)

-- where the next n bytes stand, of which there may be at most maximum
unfoldable pub bounded_at : ℕ → ℕ → List ℕ → ℕ → Outcome (ℕ × ℕ)
unfolding inside most
bounded_at n maximum s at = inside s at (then (most maximum n at) (λ n next. slice_at n s next))

-- a compact size of at most maximum, and where as many bytes stand
unfoldable pub varbytes_at : ℕ → List ℕ → ℕ → Outcome (ℕ × ℕ)
varbytes_at maximum s at = then (compact_most maximum s at) (λ n next. bounded_at n maximum s next)

-- nothing is left; trailing bytes are 3 {remaining}
unfoldable pub finish_at : List ℕ → ℕ → Outcome Unit
unfolding inside remaining_at
finish_at s at = inside s at (pick (eqb at (length s)) (ok tt at) (err 3 (remaining_at s at ∷ []) at))

-- ---- writes

-- a compact size in its shortest form
unfoldable pub compact : ℕ → List ℕ
unfolding bytes
compact v =
    pick (ltb v 253) (bytes 1 v)
    (pick (ltb v 65536) (253 ∷ bytes 2 v)
    (pick (ltb v 4294967296) (254 ∷ bytes 4 v)
    (255 ∷ bytes 8 v)))

-- and how many bytes that is
unfoldable pub compact_size : ℕ → ℕ
compact_size v = pick (ltb v 253) 1 (pick (ltb v 65536) 3 (pick (ltb v 4294967296) 5 9))

-- bytes after their length
unfoldable pub varbytes : List ℕ → List ℕ
unfolding compact
varbytes bs = compact (length bs) ++ bs

-- the answer to writing bs from at on: "29 is given exactly when all earlier checks pass and the destination is shorter
-- than n". It carries how many bytes were to be written. The destination's content is `laid at bs`, which touches
-- nothing where there is no room
unfoldable pub put_answer : ℕ → List ℕ → List ℕ → Wrote
unfolding fits
put_answer at bs d = pick (fits at bs d) (wrote (length bs)) (refused 29 (length bs ∷ []))
