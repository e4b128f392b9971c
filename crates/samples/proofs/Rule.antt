-- The message that the rule makes, and the parts of a vector.
use mathlib.Core.Path.{◌≡◌, refl, ap}
use mathlib.Core.List.{List, ◌++◌}
use Prim.Native.Nat.{ℕ, zero, suc, ◌+◌, ◌-◌, ◌*◌, ◌%◌}
use native.Mathlib.Omega.{arith}
use lib.ListN.{length, take, drop, set, take-append-drop, length-take}
use lib.Seq.{sets, take_all}
use Rattle.words.specs.Words.{le, bytes, Bytes}
use Rattle.words.proofs.Le.{bytes_le, part_bytes}
use Rattle.samples.specs.Vectors.{ruled}

pub length-ruled : (n i k : ℕ) → length (ruled n i k) ≡ k
unfolding ruled
length-ruled n i zero = refl
length-ruled n i (suc k) = ap suc (length-ruled n (suc i) k)

-- one byte more
pub ruled-more :
    (d : List ℕ) (n : ℕ) {i i' k k' : ℕ} → i' ≡ suc i → k' ≡ suc k →
    sets d i (ruled n i k') ≡ sets (set d i ((i * 131 + n * 29) % 251)) i' (ruled n i' k)
unfolding ruled
ruled-more d n p q = rw (p, q)

-- a value and a nonce that are the parts of a message make the message
pub joined :
    (m first last : List ℕ) (v : ℕ) → length m ≡ 40 → Bytes m → first ≡ take (length m - 32) m → last ≡ drop (length m - 32) m → v ≡ le (take 8 (drop 0 first)) →
    bytes 8 v ++ last ≡ m
joined m first last v h b p q r =
    let e : length m - 32 ≡ 8 = omega arith in
    let long : length (take 8 m) ≡ 8 = simp length-take (omega arith) in
    rw (r, p, q, e, take_all 8 (take 8 m) (omega arith), bytes_le 8 (take 8 m) long (part_bytes m 0 8 b)) (take-append-drop 8 m)
