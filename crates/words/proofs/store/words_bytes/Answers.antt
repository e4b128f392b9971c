use mathlib.Core.Path.{◌≡◌, ◌∙◌}
use mathlib.Core.List.{List, ◌++◌}
use Prim.Native.Nat.{ℕ}
use lib.ListN.{replicate}
use borrow.Rule.Slice.PartMut.{put_mid}
use Rattle.words.specs.Words.{bytes}
use Rattle.words.proofs.Le.{to-le}
use Rattle.words.proofs.store.words_bytes.Goals as goal

four : (a b c d : ℕ) {xs ys zs ws : List ℕ} → xs ≡ bytes 8 a → ys ≡ bytes 8 b → zs ≡ bytes 8 c → ws ≡ bytes 8 d → put_mid 24 8 (put_mid 16 8 (put_mid 8 8 (xs ++ replicate 24 0) ys) zs) ws ≡ bytes 8 a ++ bytes 8 b ++ bytes 8 c ++ bytes 8 d
unfolding bytes
four a b c d p q r s = rw (p, q, r, s)

pub returns : goal.returns
returns c =
    four _ _ _ _
    (c.copy_from_slice.ensures.after ∙ c.to_le_bytes.ensures ∙ to-le c.args.a)
    (c.copy_from_slice-2.ensures.after ∙ c.to_le_bytes-2.ensures ∙ to-le c.args.b)
    (c.copy_from_slice-3.ensures.after ∙ c.to_le_bytes-3.ensures ∙ to-le c.args.c)
    (c.copy_from_slice-4.ensures.after ∙ c.to_le_bytes-4.ensures ∙ to-le c.args.d)
