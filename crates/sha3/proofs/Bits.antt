-- Strings of bits, and the bytes and lanes that they spell.
use mathlib.Core.Path.{◌≡◌, refl, ap, ap₂, sym, ◌∙◌}
use mathlib.Core.List.{List, [], ◌∷◌, ◌++◌, append_assoc, append-nil}
use Prim.Native.Nat.{ℕ, zero, suc, ◌+◌, ◌*◌, ◌/◌, ◌≤◌, ◌<◌}
use native.Mathlib.Omega.{arith}
use native.Mathlib.Nat.{mul-zero, mul-suc}
use lib.ListN.{length, take, drop, get_or, length-append, length-drop}
use lib.Seq.{drop-nil, take-nil, take-append-add, drop-append-add, take-append-le, drop-append-le}
use Rattle.words.specs.Words.{le, bytes, lanes, Bytes}
use Rattle.words.proofs.Le.{bytes_take, bytes_drop}
use Rattle.sha3.specs.Sha3.{bits, number, bits_of, packed}

length-bits : (w v : ℕ) → length (bits w v) ≡ w
unfolding bits
length-bits zero v = refl
length-bits (suc w) v = ap suc (length-bits w (v / 2))

module _ (w : ℕ) where
  pub bits-append : (a b : List ℕ) → bits_of w (a ++ b) ≡ bits_of w a ++ bits_of w b
  unfolding bits_of
  bits-append [] b = refl
  bits-append (x ∷ a) b = rw (bits-append a b) (sym (append_assoc (bits w x) (bits_of w a) (bits_of w b)))

  first : (x n : ℕ) → w * suc n ≡ length (bits w x) + w * n
  first x n = omega (arith, mul-suc w n, length-bits w x)

  pub length-bits_of : (a : List ℕ) → length (bits_of w a) ≡ w * length a
  unfolding bits_of
  length-bits_of [] = sym (mul-zero w)
  length-bits_of (x ∷ a) = length-append (bits w x) (bits_of w a) ∙ omega (arith, first x (length a), length-bits_of a)

  pub take-bits : (n : ℕ) (a : List ℕ) → take (w * n) (bits_of w a) ≡ bits_of w (take n a)
  unfolding bits_of
  take-bits zero a = rw mul-zero
  take-bits (suc n) [] = take-nil (w * suc n)
  take-bits (suc n) (x ∷ a) = rw (first x n, take-append-add, take-bits n a)

  pub drop_bits : (n : ℕ) (a : List ℕ) → drop (w * n) (bits_of w a) ≡ bits_of w (drop n a)
  unfolding bits_of
  drop_bits zero a = rw mul-zero
  drop_bits (suc n) [] = drop-nil (w * suc n)
  drop_bits (suc n) (x ∷ a) = rw (first x n, drop-append-add, drop_bits n a)

  -- numbers that lie in the first part
  pub packed-append : (n : ℕ) (q r : List ℕ) → w * n ≤ length q → packed w n (q ++ r) ≡ packed w n q
  unfolding packed
  packed-append zero q r h = refl
  packed-append (suc n) q r h =
      let l : w ≤ length q = omega (arith, mul-suc w n) in
      rw (take-append-le w q r, drop-append-le w q r)
      (ap (λ (ws : List ℕ). number (take w q) ∷ ws) (packed-append n (drop w q) r (simp length-drop (omega (arith, mul-suc w n)))))

-- ---- lanes of bytes

number-byte : (b : ℕ) (p : List ℕ) → b < 256 → number (bits 8 b ++ p) ≡ b + 256 * number p
unfolding number bits
number-byte b p h = omega arith

number-bytes : (a : List ℕ) → Bytes a → number (bits_of 8 a) ≡ le a
unfolding number bits_of le
number-bytes [] b = refl
number-bytes (x ∷ a) b = number-byte x (bits_of 8 a) (b 0) ∙ ap (λ (n : ℕ). x + 256 * n) (number-bytes a (λ i. b (suc i)))

-- the lanes of bits that are those of bytes
pub lanes-bits : (n : ℕ) (a : List ℕ) → Bytes a → packed 64 n (bits_of 8 a) ≡ lanes n a
unfolding packed lanes
lanes-bits zero a b = refl
lanes-bits (suc n) a b =
    ap₂ (λ h t. h ∷ t)
    (ap number (take-bits 8 8 a) ∙ number-bytes (take 8 a) (bytes_take 8 a b))
    (ap (packed 64 n) (drop_bits 8 8 a) ∙ lanes-bits n (drop 8 a) (bytes_drop 8 a b))

-- ---- bytes of lanes

-- eight more, so that lists compute by them
abbrev pub eight : ℕ → ℕ
eight n = suc (suc (suc (suc (suc (suc (suc (suc n)))))))

pub eight-more : (n : ℕ) → 8 * suc n ≡ eight (8 * n)
eight-more n = omega arith

-- the bytes of one number's bits, and then those of what follows
bytes_bits : (n k : ℕ) {c : ℕ} (v : ℕ) (p : List ℕ) → c ≡ n + k → packed 8 c (bits (8 * n) v ++ p) ≡ bytes n v ++ packed 8 k p
unfolding number bits packed bytes
bytes_bits zero k v p e = let f : 0 + k ≡ k = omega arith in rw (e, f)
bytes_bits (suc n) k v p e =
    let f : suc n + k ≡ suc (n + k) = omega arith in
    rw (e, f, eight-more n)
    (ap₂ (λ h t. h ∷ t) (omega arith) (ap (λ (u : ℕ). packed 8 (n + k) (bits (8 * n) u ++ p)) (omega arith) ∙ bytes_bits n k (v / 256) p refl))

-- the first 256 bits of lanes
pub first-lanes :
    (s : List ℕ) → 4 ≤ length s →
    packed 8 32 (take 256 (bits_of 64 s)) ≡ bytes 8 (get_or s 0 0) ++ bytes 8 (get_or s 1 0) ++ bytes 8 (get_or s 2 0) ++ bytes 8 (get_or s 3 0)
unfolding bits_of packed
first-lanes (a ∷ b ∷ c ∷ d ∷ s) h =
    let joined : packed 8 32 (take 256 (bits_of 64 (a ∷ b ∷ c ∷ d ∷ s))) ≡ bytes 8 a ++ (bytes 8 b ++ (bytes 8 c ++ bytes 8 d)) =
    ap (packed 8 32) (take-bits 64 4 (a ∷ b ∷ c ∷ d ∷ s))
    ∙ bytes_bits 8 24 a _ refl
    ∙ ap (λ (l : List ℕ). bytes 8 a ++ l)
    (bytes_bits 8 16 b _ refl
    ∙ ap (λ (l : List ℕ). bytes 8 b ++ l)
    (bytes_bits 8 8 c _ refl ∙ ap (λ (l : List ℕ). bytes 8 c ++ l) (bytes_bits 8 0 d [] refl ∙ append-nil (bytes 8 d)))) in
    simp append_assoc joined
first-lanes [] h = absurd (omega arith)
first-lanes (a ∷ []) h = absurd (omega arith)
first-lanes (a ∷ b ∷ []) h = absurd (omega arith)
first-lanes (a ∷ b ∷ c ∷ []) h = absurd (omega arith)
