-- Outpoints (document 01, module 3).
use Rattle.std.specs.Prelude.{ℕ, List, ◌++◌, Bool, ◌&&◌, replicate, eqb}
use Rattle.words.specs.Words.{bytes}
use Rattle.words.specs.Sameness.{same}
use Rattle.refusal.specs.Outcome.{Outcome, ok, err, then}
use Rattle.encoding.specs.Wire.{bytes_at, fixed_at}
use Rattle.primitives.specs.declared.Outpoint.{Outpoint}

-- the outpoint of a hash and an index
abbrev pub outpoint : List ℕ → ℕ → Outpoint
outpoint hash index = record { transaction_hash = record { 0 = hash }; index = index }

-- "The null outpoint, 32 zero bytes with index 2^32 - 1"
abbrev pub null_outpoint : Outpoint
null_outpoint = outpoint (replicate 32 0) 4294967295

unfoldable pub same_outpoint : Outpoint → Outpoint → Bool
unfolding same
same_outpoint a b = eqb a.index b.index && same a.transaction_hash.0 b.transaction_hash.0

unfoldable pub is_null : Outpoint → Bool
unfolding same_outpoint
is_null p = same_outpoint p null_outpoint

-- the hash, and the index in 4 bytes: 36 in all
unfoldable pub outpoint_bytes : Outpoint → List ℕ
outpoint_bytes p = p.transaction_hash.0 ++ bytes 4 p.index

-- the same, read: two fixed reads, as the Rust's `decode_outpoint_from`
unfoldable pub outpoint_at : List ℕ → ℕ → Outcome Outpoint
outpoint_at s at = then (bytes_at 32 s at) (λ hash next. then (fixed_at 4 s next) (λ index end. ok (outpoint hash index) end))

-- "Unused parts of an answer are zeros": what stands where there is no outpoint
abbrev pub no_outpoint : Outpoint
no_outpoint = outpoint (replicate 32 0) 0

-- what is handed out over C: the outpoint beside the outcome
abbrev pub shown_outpoint : Outcome Outpoint → Outcome Unit × Outpoint
shown_outpoint (ok p next) = (ok tt next, p)
shown_outpoint (err k vs p) = (err k vs p, no_outpoint)
