-- Two results that meet a contract coincide, for each public function.
use mathlib.Core.Path.{◌≡◌}
use Prim.Native.Nat.{ℕ}
use mathlib.Core.Bool.{Bool}
use mathlib.Core.List.{List}
use Rattle.std.specs.Prelude.{Result}
use Rattle.words.proofs.One.{one}
use Rattle.refusal.specs.declared.Refusal.{Refusal}
use Rattle.primitives.specs.declared.NameHash.{NameHash}
use Rattle.names.specs.Blind.{blind_of}
use Rattle.names.specs.Name.{valid_name, name_hash}
use Rattle.names.specs.Paper.{hashed_paper}
use Rattle.names.proofs.Same.{hashed-same}

pub validate-name-one : (name : List ℕ) {r r' : Bool} → r ≡ valid_name name → r' ≡ valid_name name → r ≡ r'
validate-name-one name = one

pub hash-name-one : (name : List ℕ) {r r' : Result NameHash Refusal} → hashed_paper r ≡ name_hash name → hashed_paper r' ≡ name_hash name → r ≡ r'
hash-name-one name e f = hashed-same (one e f)

pub blind-bid-one : (value : ℕ) (nonce : List ℕ) {r r' : List ℕ} → r ≡ blind_of value nonce → r' ≡ blind_of value nonce → r ≡ r'
blind-bid-one value nonce = one
