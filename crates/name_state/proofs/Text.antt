-- The bytes that an array holds, up to a length.
use mathlib.Core.Path.{◌≡◌, sym, ◌∙◌}
use Prim.Native.Nat.{ℕ, ◌≤◌, min}
use native.Mathlib.Omega.{arith}
use native.Mathlib.Numerals.{unary_clauses}
use Rattle.std.specs.List.{slice_range}
use Rattle.std.proofs.lemmas.Grind.{common_steps}
use Rattle.std.proofs.lemmas.List.{take_min}
use mathlib.Core.Bool.{false}
use mathlib.Core.List.{List}
use lib.ListN.{length, take}
use Rattle.words.specs.Sameness.{same}
use Rattle.words.proofs.Sameness.{same-long, same-append}
use Rattle.words.specs.Buffers.{zero_padded}
use Rattle.name_state.specs.Paper.{text}

pub padded-long : (bs : List ℕ) (m : ℕ) → length bs ≤ m → length (zero_padded m bs) ≡ m
unfolding zero_padded
padded-long bs m h = grind (arith, common_steps)

pub text-long : (n : ℕ) (bs : List ℕ) → length (text n bs) ≡ n
unfolding text
text-long n bs = grind (arith, common_steps)

-- a text that its array holds
pub text-within : (n : ℕ) (bs : List ℕ) → n ≤ length bs → text n bs ≡ take n bs
unfolding text
text-within n bs h = grind (arith, common_steps)

-- the same, as `get` gives it
pub text_got : (n : ℕ) (bs : List ℕ) {xs : List ℕ} → n ≤ length bs → xs ≡ slice_range bs 0 n → text n bs ≡ xs
text_got n bs h e = text-within n bs h ∙ sym (simp unary_clauses at e)

-- a text that fits is what is stored of it
pub text-padded : (bs : List ℕ) (m : ℕ) → length bs ≤ m → text (length bs) (zero_padded m bs) ≡ bs
unfolding zero_padded
text-padded bs m h = grind (arith, common_steps, text-within, padded-long)

-- texts of one length, in arrays of one size, are the same where the bytes within the arrays are
pub same-within : (n k : ℕ) (a b : List ℕ) → length a ≡ length b → k ≡ min n (length a) → same (take k a) (take k b) ≡ same (text n a) (text n b)
unfolding text
same-within n k a b e f = grind (arith, common_steps, take_min, same-append)

pub same-other : (n m : ℕ) (a b : List ℕ) → (n ≡ m → ⊥) → same (text n a) (text m b) ≡ false
same-other n m a b h = grind (arith, same-long, text-long)
