-- Two results that meet a contract coincide, for each public function.
use mathlib.Core.Path.{◌≡◌}
use Prim.Native.Nat.{ℕ}
use mathlib.Core.List.{List}
use Rattle.words.proofs.One.{one}
use Rattle.sha3.specs.Sha3.{sha3}

pub sha3-256-one : (m : List ℕ) {r r' : List ℕ} → r ≡ sha3 m → r' ≡ sha3 m → r ≡ r'
sha3-256-one m = one
