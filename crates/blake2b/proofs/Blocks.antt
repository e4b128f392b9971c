-- The blocks of a message: each one's words, one after the other, and the last.
use Rattle.std.proofs.Common.{◌≡◌, ℕ, zero, suc, ◌+◌, ◌-◌, ◌*◌, ◌/◌, ◌^◌, ◌<◌, ◌≤◌, true, false, List, [], ◌∷◌, ◌++◌, length, drop, replicate, sym, refl, add-one, ap, ◌∙◌, ap₂, arith, length-append, drop_of_length-le, drop-drop, take_at, drop_at}
use lib.Seq.{drop-append-le}
use Rattle.words.specs.Words.{le, bytes, lanes}
use Rattle.words.proofs.Le.{le_bytes, length-bytes}
use Rattle.blake2b.specs.Blake2b.{F, blocks, whole_blocks, block, first, chain, final}
use Rattle.words.proofs.Lanes.{lanes-zeros}

blocks_is : (n : ℕ) → blocks n ≡ (n - 1) / 128 + 1
unfolding blocks
blocks_is zero = refl
blocks_is (suc n) = omega arith

module _ (m : List ℕ) (i : ℕ) (here : 128 * i ≤ length m) where
  -- padding changes no word
  block-is : lanes 16 (drop (128 * i) m) ≡ block m i
  unfolding whole_blocks block
  block-is =
      let k : ℕ = 128 * blocks (length m) - length m in
      rw (drop-append-le (128 * i) m (replicate k 0) here) (sym (lanes-zeros 16 (drop (128 * i) m) k))

  module _ {h : List ℕ} (so_far : h ≡ chain i m) where
    -- a block that is not the last
    pub chain_more : F h (lanes 16 (drop (128 * i) m)) ((i + 1) * 128) false ≡ chain (i + 1) m
    unfolding chain
    chain_more = rw (so_far, block-is) (ap (λ (n : ℕ). chain n m) (sym (add-one i)))

    -- the last
    pub chain-last : i ≡ (length m - 1) / 128 → F h (lanes 16 (drop (128 * i) m)) (length m) true ≡ final m
    unfolding final
    chain-last e =
        let n : blocks (length m) - 1 ≡ i = omega (arith, blocks_is (length m)) in
        rw (n, so_far, block-is)

-- ---- a value and a nonce: one block

module _ (v : ℕ) (n : List ℕ) (fits : v < 2 ^ 64) (long : length n ≡ 32) where
  block_words : lanes 16 (bytes 8 v ++ n) ≡ v ∷ lanes 15 n
  unfolding lanes
  block_words =
      rw (take_at (bytes 8 v) n 8 (length-bytes 8 v), drop_at (bytes 8 v) n 8 (length-bytes 8 v), le_bytes 8 v fits)

  nonce-words : lanes 4 n ++ replicate 11 0 ≡ lanes 15 n
  unfolding le lanes
  nonce-words =
      let z : drop 8 (drop 8 (drop 8 (drop 8 n))) ≡ [] =
      simp drop-drop (drop_of_length-le n {i = 32} (omega arith)) in
      rw z

  pub value-nonce : {w : List ℕ} → w ≡ lanes 4 n → F first (v ∷ w ++ replicate 11 0) 40 true ≡ final (bytes 8 v ++ n)
  unfolding chain
  value-nonce e =
      let m : List ℕ = bytes 8 v ++ n in
      let k : length m ≡ 40 = length-append (bytes 8 v) n ∙ ap₂ (λ (a b : ℕ). a + b) (length-bytes 8 v) long in
      rw (e, nonce-words, ← block_words, ← k) (chain-last m 0 (omega arith) refl (omega arith))
