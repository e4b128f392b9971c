-- What a name's hash tells of the name.
use mathlib.Core.Path.{◌≡◌}
use Prim.Native.Nat.{ℕ, ◌<◌}
use native.Mathlib.Omega.{arith}
use mathlib.Core.List.{List, []}
use lib.ListN.{length}
use Rattle.std.proofs.lemmas.Bool.Decides.{nat_tests}
use Rattle.refusal.specs.Outcome.{ok, err}
use Rattle.names.specs.Name.{valid_name, name_hash}

-- a hash stands at no place
pub hash-place : (s : List ℕ) {h : List ℕ} {p : ℕ} → name_hash s ≡ ok h p → p ≡ 0
unfolding name_hash
hash-place s e = grind arith

-- no name is longer than 63 bytes
pub long-refused : (s : List ℕ) → 63 < length s → name_hash s ≡ err 6 [] 0
unfolding name_hash valid_name
long-refused s h = grind (arith, nat_tests)
