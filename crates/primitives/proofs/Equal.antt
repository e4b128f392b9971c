-- What the derived `==` of outpoints says is what the definition says.
use mathlib.Core.Path.{◌≡◌, refl, ap, ◌∙◌}
use Prim.Native.Nat.{ℕ}
use mathlib.Core.List.{List, [], ◌∷◌}
use mathlib.Core.Bool.{Bool, true, false, ◌&&◌}
use lib.Dec.{eqb}
use lib.Pointwise.{pointwise}
use Rattle.words.specs.Sameness.{same}
use Rattle.primitives.specs.Outpoints.{same_outpoint}
use Rattle.primitives.specs.declared.Outpoint.{Outpoint}

pub same-pointwise : (xs ys : List ℕ) → pointwise eqb xs ys ≡ same xs ys
unfolding same
same-pointwise [] [] = refl
same-pointwise [] (y ∷ ys) = refl
same-pointwise (x ∷ xs) [] = refl
same-pointwise (x ∷ xs) (y ∷ ys) = ap (λ b. eqb x y && b) (same-pointwise xs ys)

and-turned : (a b : Bool) → (a && b) ≡ (b && a)
and-turned true true = refl
and-turned true false = refl
and-turned false true = refl
and-turned false false = refl

pub equal : (p q : Outpoint) → (pointwise eqb p.transaction_hash.0 q.transaction_hash.0 && eqb p.index q.index) ≡ same_outpoint p q
unfolding same_outpoint
equal p q = and-turned (pointwise eqb p.transaction_hash.0 q.transaction_hash.0) (eqb p.index q.index) ∙ ap (λ b. eqb p.index q.index && b) (same-pointwise p.transaction_hash.0 q.transaction_hash.0)
