-- Parts of bytes, and the items that stand in them.
use mathlib.Core.Path.{◌≡◌, refl, ap}
use Prim.Native.Nat.{ℕ, zero, suc, ◌+◌, ◌≤◌, ◌<◌}
use native.Mathlib.Omega.{arith}
use mathlib.Core.List.{List, [], ◌∷◌}
use mathlib.Core.Bool.{true, false}
use mathlib.Core.Option.{some, none}
use lib.ListN.{length, get_or}
use lib.Seq.{drop-cons, take-length}
use borrow.Author.Tests.{eq-eqb, ne_eqb}
use Rattle.words.specs.Sameness.{same}
use Rattle.covenants.specs.Covenant.{bytes_in, contents}
use Rattle.covenants.specs.Items.{nth}

-- an array of 32 bytes is its own part
pub own-part : (h : List ℕ) → length h ≡ 32 → bytes_in h (0, 32) ≡ h
own-part h l = rw (← l) (take-length h)

-- the byte of a part of one
pub first_byte : (s : List ℕ) (a : ℕ) → a + 1 ≤ length s → get_or (bytes_in s (a, 1)) 0 0 ≡ get_or s a 0
first_byte s a h = rw (drop-cons s a 0 (omega arith))

-- two parts, compared one byte after the other
module _ (s t : List ℕ) where
  pub same_more : {a a' b b' n n' : ℕ} → a < length s → b < length t → a' ≡ suc a → b' ≡ suc b → n' ≡ suc n → get_or s a 0 ≡ get_or t b 0
      → same (bytes_in s (a, n')) (bytes_in t (b, n')) ≡ same (bytes_in s (a', n)) (bytes_in t (b', n))
  unfolding same
  same_more {a} {b = b} h k p q r e = rw (p, q, r, drop-cons s a 0 h, drop-cons t b 0 k, eq-eqb _ _ e)

  pub same_not : {a b n n' : ℕ} → a < length s → b < length t → n' ≡ suc n → (get_or s a 0 ≡ get_or t b 0 → ⊥) → same (bytes_in s (a, n')) (bytes_in t (b, n')) ≡ false
  unfolding same
  same_not {a} {b} h k r e = rw (r, drop-cons s a 0 h, drop-cons t b 0 k, ne_eqb _ _ e)

  pub same_none : (a b : ℕ) {n : ℕ} → n ≡ 0 → same (bytes_in s (a, n)) (bytes_in t (b, n)) ≡ true
  unfolding same
  same_none a b p = rw p

-- ---- the k-th of the items, by its place

pub nth-there : (s : List ℕ) (xs : List (ℕ × ℕ)) (k : ℕ) {part : ℕ × ℕ} → nth xs k ≡ some part → get_or (contents s xs) k [] ≡ bytes_in s part
unfolding nth
nth-there s [] k e = cc
nth-there s (x ∷ xs) zero {part} e = let p : x ≡ part = cc in ap (bytes_in s) p
nth-there s (x ∷ xs) (suc k) e = nth-there s xs k e

pub nth-absent : (s : List ℕ) (xs : List (ℕ × ℕ)) (k : ℕ) → nth xs k ≡ none → get_or (contents s xs) k [] ≡ []
unfolding nth
nth-absent s [] k e = refl
nth-absent s (x ∷ xs) zero e = cc
nth-absent s (x ∷ xs) (suc k) e = nth-absent s xs k e

pub nth-long : (xs : List (ℕ × ℕ)) (k : ℕ) {part : ℕ × ℕ} → nth xs k ≡ some part → k < length xs
unfolding nth
nth-long [] k e = cc
nth-long (x ∷ xs) zero e = omega arith
nth-long (x ∷ xs) (suc k) e = let h = nth-long xs k e in omega arith

pub nth-short : (xs : List (ℕ × ℕ)) (k : ℕ) → nth xs k ≡ none → length xs ≤ k
unfolding nth
nth-short [] k e = omega arith
nth-short (x ∷ xs) zero e = cc
nth-short (x ∷ xs) (suc k) e = let h = nth-short xs k e in omega arith
