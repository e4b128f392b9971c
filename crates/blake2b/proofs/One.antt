-- Two results that meet a contract coincide, for each public function.
use Rattle.std.proofs.Common.{◌≡◌, ℕ, List, ◌++◌}
use Rattle.words.specs.Words.{bytes}
use Rattle.words.proofs.One.{one}
use Rattle.blake2b.specs.Blake2b.{blake2b}

pub blake2b-256-one : (m : List ℕ) {r r' : List ℕ} → r ≡ blake2b m → r' ≡ blake2b m → r ≡ r'
blake2b-256-one m = one

pub blake2b-256-value-nonce-one : (value : ℕ) (nonce : List ℕ) {r r' : List ℕ} → r ≡ blake2b (bytes 8 value ++ nonce) → r' ≡ blake2b (bytes 8 value ++ nonce) → r ≡ r'
blake2b-256-value-nonce-one value nonce = one
