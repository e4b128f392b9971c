-- The blind commitment (document 01, module 5).
use Rattle.std.specs.Prelude.{ℕ, List, ◌++◌}
use Rattle.words.specs.Words.{bytes}
use Rattle.blake2b.specs.Blake2b.{blake2b}

-- "BLAKE2b-256 of the 8 little-endian value bytes and the 32 nonce bytes"
abbrev pub blind_of : ℕ → List ℕ → List ℕ
blind_of value nonce = blake2b (bytes 8 value ++ nonce)
