-- A list of known length, told entry by entry: definitions that store into a list compute on that form.
use mathlib.Core.Path.{◌≡◌, refl, ap, ◌∙◌}
use mathlib.Core.List.{List, [], ◌∷◌}
use Prim.Native.Nat.{ℕ, zero, suc, ◌+◌, ◌≤◌, ◌<◌}
use native.Mathlib.Omega.{arith}
use lib.ListN.{length, take, drop, get_or}
use lib.Seq.{drop-cons, take_all}

-- the n entries from k on
abbrev pub entries : ℕ → ℕ → List ℕ → List ℕ
entries k zero v = []
entries k (suc n) v = get_or v k 0 ∷ entries (suc k) n v

entries-part : (k n : ℕ) (v : List ℕ) → k + n ≤ length v → entries k n v ≡ take n (drop k v)
entries-part k zero v h = refl
entries-part k (suc n) v h =
    let l : k < length v = omega arith in
    rw (drop-cons v k 0) (ap (λ (w : List ℕ). get_or v k 0 ∷ w) (entries-part (suc k) n v (omega arith)))

pub all-entries : (n : ℕ) (v : List ℕ) → length v ≡ n → entries 0 n v ≡ v
all-entries n v h = entries-part 0 n v (omega arith) ∙ take_all n v (omega arith)
