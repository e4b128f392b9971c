-- The outputs past the inputs, one after the other.
use mathlib.Core.Path.{◌≡◌, ap, sym, ◌∙◌}
use Prim.Native.Nat.{ℕ, suc, ◌+◌, ◌-◌, ◌≤◌, ◌<◌}
use native.Mathlib.Omega.{arith}
use mathlib.Core.List.{List, [], ◌∷◌, map}
use mathlib.Core.Bool.{true, false}
use Rattle.refusal.specs.Outcome.{Stand, ok, err, many_at}
use Rattle.refusal.proofs.Outcomes.{never}
use Rattle.refusal.proofs.Many.{Next, many-next, many-none}
use Rattle.covenants.specs.Kind.{is_linked}
use Rattle.sheets.specs.Sheet.{Output, output_of, place_at}
use Rattle.sheets.specs.declared.Place.{Place}
use Rattle.links.specs.Rules.{Verdict, broken, unpaired}

-- after k of them: what is left gives the whole
pub record Trailing (tx : List ℕ) (n left : ℕ) (v : Verdict) (at k : ℕ) (whole : Verdict) : Type 0 where
  pub bound : k ≤ left
  pub ps : List Place
  pub end : ℕ
  pub reads : many_at (place_at 0 tx) (left - k) at ≡ ok ps end
  pub rests : unpaired (n + k) v (map (output_of tx) ps) ≡ whole

-- one output, on lists
module _ (at : ℕ) (v : Verdict) (o : Output) (os : List Output) where
  free : {at' : ℕ} → at' ≡ suc at → is_linked o.kind ≡ false → unpaired at v (o ∷ os) ≡ unpaired at' v os
  unfolding unpaired
  free p e = rw (p, e)

  bound-one : is_linked o.kind ≡ true → unpaired at v (o ∷ os) ≡ broken 26 (at ∷ o.kind ∷ [])
  unfolding unpaired
  bound-one e = rw e

module _ (tx : List ℕ) (n left : ℕ) (v : Verdict) {at k : ℕ} {whole : Verdict} (r : Trailing tx n left v at k whole) where
  pub ended : left ≤ k → v ≡ whole
  unfolding unpaired
  ended h = (rw (many-none (place_at 0 tx) {n = left - k} at (omega arith) r.reads) at r.rests)

  module _ (h : k < left) where
    first-output : Next (place_at 0 tx) (left - (k + 1)) at r.ps r.end
    first-output = many-next (place_at 0 tx) {n = left - (k + 1)} {n' = left - k} (omega arith) r.reads

    here : unpaired (n + k) v (map (output_of tx) (first-output.first ∷ first-output.others)) ≡ whole
    here = ap (λ (l : List Place). unpaired (n + k) v (map (output_of tx) l)) (sym first-output.split) ∙ r.rests

    pub dead : {X : Type 0} {q : ℕ} {vs : List ℕ} {m : Stand} → place_at 0 tx at ≡ err q vs m → X
    dead e = absurd (never first-output.here e)

    module _ {made : Place} {next : ℕ} (e : place_at 0 tx at ≡ ok made next) where
      is : first-output.first ≡ made
      is = let f = sym first-output.here ∙ e in cc

      ends : first-output.next ≡ next
      ends = let f = sym first-output.here ∙ e in cc

      this : unpaired (n + k) v (map (output_of tx) (made ∷ first-output.others)) ≡ whole
      this = ap (λ (m : Place). unpaired (n + k) v (map (output_of tx) (m ∷ first-output.others))) (sym is) ∙ here

      pub stopped : is_linked made.kind ≡ true → broken 26 ((n + k) ∷ made.kind ∷ []) ≡ whole
      stopped t = sym (bound-one (n + k) v (output_of tx made) (map (output_of tx) first-output.others) t) ∙ this

      pub more : is_linked made.kind ≡ false → Trailing tx n left v next (k + 1) whole
      more t =
          record {
            bound = omega arith;
            ps = first-output.others;
            end = r.end;
            reads = ap (λ (m : ℕ). many_at (place_at 0 tx) (left - (k + 1)) m) (sym ends) ∙ first-output.rest;
            rests = sym (free (n + k) v (output_of tx made) (map (output_of tx) first-output.others) {at' = n + (k + 1)} (omega arith) t) ∙ this;
          }
