-- The proof of specs/Theorems.antt.
use mathlib.Core.Path.{◌≡◌, refl, sym, ap, ◌∙◌}
use Prim.Native.Nat.{ℕ, ◌≤◌}
use mathlib.Core.List.{List}
use lib.ListN.{length}
use borrow.Author.Tests.{le-ltb}
use Rattle.refusal.specs.Outcome.{Outcome, ok, err, then}
use Rattle.refusal.proofs.Outcomes.{then-assoc}
use Rattle.encoding.specs.Wire.{inside, most, slice_at, bounded_at, compact_most, varbytes_at, finish_at}
use Rattle.encoding.proofs.Fixed.{most-moves}
use Rattle.decoder.specs.Held.{whole_varbytes}
use Rattle.decoder.specs.Theorems.{AsTheCursor}

-- what comes after a read need agree only where the read was not refused
then-alike : {A B : Type 0} (o : Outcome A) (f g : A → ℕ → Outcome B) → ((a : A) (p : ℕ) → o ≡ ok a p → f a p ≡ g a p) → then o f ≡ then o g
then-alike (ok a p) f g h = h a p refl
then-alike (err k vs p) f g h = refl

-- a length that is not above its maximum, from within the slice
bounded-slice : (n maximum : ℕ) (s : List ℕ) (at : ℕ) → n ≤ maximum → at ≤ length s → slice_at n s at ≡ bounded_at n maximum s at
unfolding inside most bounded_at
bounded-slice n maximum s at few in-it = simp (le-ltb _ _ in-it, le-ltb _ _ few)

pub as-the-cursor : AsTheCursor
unfolding whole_varbytes varbytes_at
as-the-cursor maximum s lent =
    then-alike (compact_most maximum s 0) _ _ (λ n next e. let m = most-moves maximum s 0 lent e in ap (λ o. then o (λ part end. then (finish_at s end) (λ _ at. ok part at))) (bounded-slice n maximum s next m.2 m.1))
    ∙ sym (then-assoc (compact_most maximum s 0) (λ n next. bounded_at n maximum s next) (λ part end. then (finish_at s end) (λ _ at. ok part at)))
