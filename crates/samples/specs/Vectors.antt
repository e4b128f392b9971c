-- Files of hash vectors: what a vector says, and when the code agrees with it. tools/make_vectors.py writes the files.
use Rattle.std.specs.Prelude.{◌≡◌, Bool, true, not, List, [], ◌∷◌, ℕ, zero, suc, ◌+◌, ◌-◌, ◌*◌, ◌%◌, ◌≤◌, ltb, eqb, length, take, drop, get_or, Option, Some, None}
use Rattle.words.specs.Words.{le}
use Rattle.words.specs.Buffers.{pick}
use Rattle.words.specs.Sameness.{same}
use Rattle.sha3.specs.Sha3.{sha3}
use Rattle.blake2b.specs.Blake2b.{blake2b}
use Rattle.samples.specs.declared.vectors.Function.{Function}
use Rattle.samples.specs.declared.vectors.Vector.{Vector}
use Rattle.samples.specs.declared.compare.Judged.{Judged}

-- the first eight bytes of a file: the function's number, and `vectors`
abbrev pub head_of : Function → ℕ
head_of Function.Sha3 = 0x73726f7463657601
head_of Function.Blake2b = 0x73726f7463657602
head_of Function.ValueNonce = 0x73726f7463657603

-- what a function answers on a message; a value and a nonce are the message of the value's eight bytes and the nonce's
-- 32
abbrev pub hash_of : Function → List ℕ → List ℕ
hash_of Function.Sha3 m = sha3 m
hash_of Function.Blake2b m = blake2b m
hash_of Function.ValueNonce m = blake2b m

-- the lengths that a function takes
abbrev pub takes : Function → ℕ → Bool
takes Function.Sha3 n = true
takes Function.Blake2b n = true
takes Function.ValueNonce n = eqb n 40

-- k bytes, from byte i on, of the message of n bytes that the rule makes
unfoldable pub ruled : ℕ → ℕ → ℕ → List ℕ
ruled n i zero = []
ruled n i (suc k) = (i * 131 + n * 29) % 251 ∷ ruled n (suc i) k

unfoldable pub made : ℕ → List ℕ
made n = ruled n 0 n

-- the vector at a place whose message has n bytes
unfoldable pub message_at : List ℕ → ℕ → ℕ → Option Vector
message_at s at n =
    pick (eqb (get_or s at 0) 0)
    (pick (ltb (length s - at - 41) n) None (Some (Vector.Given (at + 9) n (at + 41 + n))))
    (pick (eqb (get_or s at 0) 1)
    (pick (ltb 66000 n) None (Some (Vector.Made n (at + 41))))
    None)

-- the vector at a place: how its message is given, the message's length, its bytes where they are given, the digest
unfoldable pub vector_at : Function → List ℕ → ℕ → Option Vector
vector_at f s at =
    let n : ℕ = le (take 8 (drop (at + 1) s)) in
    pick (ltb (length s - at) 41) None
    (pick (takes f n) (message_at s at n) None)

-- where the parts of a vector lie in l bytes
abbrev pub Inside : ℕ → Option Vector → Type 0
Inside l (Some (Vector.Given start n next)) = (start + n + 32 ≡ next) × (next ≤ l)
Inside l (Some (Vector.Made n next)) = (n ≤ 66000) × (32 ≤ next) × (next ≤ l)
Inside l None = Unit {0}

-- the message of a vector has n bytes
abbrev pub Sized : ℕ → Option Vector → Type 0
Sized n (Some (Vector.Given start m next)) = m ≡ n
Sized n (Some (Vector.Made m next)) = m ≡ n
Sized n None = Unit {0}

-- the function takes the message of a vector
abbrev pub Takes : Function → Option Vector → Type 0
Takes f (Some (Vector.Given start n next)) = takes f n ≡ true
Takes f (Some (Vector.Made n next)) = takes f n ≡ true
Takes f None = Unit {0}

-- what is told of a vector with the message m that ends at `next`
unfoldable pub compared : Function → List ℕ → List ℕ → ℕ → Judged
compared f s m next =
    record { differs = not (same (hash_of f m) (take 32 (drop (next - 32) s))); next = next }

unfoldable pub judged_of : Function → List ℕ → Option Vector → Option Judged
judged_of f s (Some (Vector.Given start n next)) = Some (compared f s (take n (drop start s)) next)
judged_of f s (Some (Vector.Made n next)) = Some (compared f s (made n) next)
judged_of f s None = None
