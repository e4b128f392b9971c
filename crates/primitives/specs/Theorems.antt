-- An outpoint's 36 bytes have one reading. The statements; their proofs are in proofs/Theorems.antt.
use Rattle.std.specs.Prelude.{◌≡◌, ℕ, ◌+◌, ◌^◌, ◌<◌, true, List, ◌++◌, length, drop}
use Rattle.refusal.specs.Outcome.{ok}
use Rattle.encoding.specs.Theorems.{Lent}
use Rattle.primitives.specs.Outpoints.{same_outpoint, outpoint_bytes, outpoint_at}
use Rattle.primitives.specs.declared.Outpoint.{Outpoint}

-- what every outpoint of the code is: 32 bytes and a number below 2^32
pub record Sized (p : Outpoint) : Type 0 where
  pub hash : length p.transaction_hash.0 ≡ 32
  pub index : p.index < 2 ^ 32

-- what is written reads back, and what follows is what is left
abbrev pub OutpointReadsBack : Type 0
OutpointReadsBack =
    (p : Outpoint) (before rest : List ℕ) → Sized p → Lent (before ++ (outpoint_bytes p ++ rest))
    → (outpoint_at (before ++ (outpoint_bytes p ++ rest)) (length before) ≡ ok p (length before + 36)) × (drop (length before + 36) (before ++ (outpoint_bytes p ++ rest)) ≡ rest)

-- `same` says true of equal outpoints alone
abbrev pub SameIsEqual : Type 0
SameIsEqual = (p q : Outpoint) → (same_outpoint p q ≡ true → p ≡ q) × (p ≡ q → same_outpoint p q ≡ true)
