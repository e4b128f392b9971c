-- Whether bytes are a word, by their length and letters: as a match on them tests it.
use mathlib.Core.Path.{◌≡◌, ap, ◌∙◌}
use Prim.Native.Nat.{ℕ, ◌+◌}
use native.Mathlib.Omega.{arith}
use native.Mathlib.Numerals.{add-one}
use mathlib.Core.List.{List, [], ◌∷◌}
use mathlib.Core.Bool.{Bool, true, ◌&&◌}
use lib.ListN.{length, drop, get_or}
use lib.Seq.{drop-cons, drop-length}
use lib.Dec.{eqb}
use Rattle.std.proofs.lemmas.Bool.Decides.{nat_tests}
use Rattle.words.specs.Sameness.{same}
use Rattle.words.proofs.Sameness.{same-long}

abbrev pub spelled : List ℕ → List ℕ → ℕ → Bool
spelled s [] i = true
spelled s (x ∷ w) i = eqb (get_or s i 0) x && spelled s w (i + 1)

spelled-from : (s w : List ℕ) (i : ℕ) → length s ≡ i + length w → same (drop i s) w ≡ spelled s w i
unfolding same
spelled-from s [] i h =
    let e : drop i s ≡ [] = ap (λ n. drop n s) (let k : i ≡ length s = omega arith in k) ∙ drop-length s in
    rw e
spelled-from s (x ∷ w) i h =
    let rest = rw add-one at (spelled-from s w (i + 1) (omega arith)) in
    rw (drop-cons s i 0 (omega arith), add-one) (ap (λ b. eqb (get_or s i 0) x && b) rest)

pub same_spelled : (s w : List ℕ) → length s ≡ length w → same s w ≡ spelled s w 0
same_spelled s w h = spelled-from s w 0 (omega arith)

pub ruleset spellings = (nat_tests, same-long, same_spelled)
