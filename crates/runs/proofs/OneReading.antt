-- The theorem of specs/OneReading.antt.
use Rattle.std.proofs.Common.{[], ◌∷◌, ◌++◌, length, sym, refl, ap, ◌∙◌, ap₂, append_assoc, arith, length-append}
use Rattle.encoding.specs.Joined.{joined}
use Rattle.runs.specs.OneReading.{OneReading, PrefixFreeHasOneReading}

pub one-reading : PrefixFreeHasOneReading
unfolding joined
one-reading A Good bytes free = go
  where
    go : OneReading Good bytes
    go [] ys rest gx gy e = (ys, refl)
    go (x ∷ xs) [] rest gx gy e =
        absurd (omega (arith, ap length e, length-append (bytes x ++ joined bytes xs) rest, length-append (bytes x) (joined bytes xs), free.filled x gx.0))
    go (x ∷ xs) (y ∷ ys) rest gx gy e =
        let both = free.alike x y (joined bytes xs ++ rest) (joined bytes ys) gx.0 gy.0 (sym (append_assoc (bytes x) (joined bytes xs) rest) ∙ e) in
        let ih = go xs ys rest gx.1 gy.1 both.1 in
        (ih.0, ap₂ (λ z zs. z ∷ zs) (sym both.0) ih.1)
