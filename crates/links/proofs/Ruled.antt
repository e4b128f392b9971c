-- Two rules that say the same of every input say the same of all of them.
use mathlib.Core.Path.{◌≡◌, refl, ap, ◌∙◌}
use Prim.Native.Nat.{ℕ, suc, ◌+◌}
use mathlib.Core.Bool.{Bool}
use mathlib.Core.List.{List, [], ◌∷◌}
use mathlib.Core.Option.{Option}
use Rattle.words.specs.Buffers.{pick}
use Rattle.primitives.specs.declared.Outpoint.{Outpoint}
use Rattle.primitives.specs.Outpoints.{same_outpoint}
use Rattle.covenants.specs.Kind.{is_name}
use Rattle.sheets.specs.Sheet.{Output, Coin}
use Rattle.checks.specs.Checks.{Step, passes, breaks}
use Rattle.links.specs.Rules.{Rule, one, onward, partner_in, others, Verdict, differs, links_from}

module _ (f g : Rule) (alike : (i : ℕ) (spent : Output) (partner : Option Output) → f i spent partner ≡ g i spent partner) where
  pub links-alike : (i outs names : ℕ) (xs : List Outpoint) (cs : List Coin) (os : List Output) → links_from f i outs names xs cs os ≡ links_from g i outs names xs cs os
  unfolding links_from
  links-alike i outs names [] cs os = refl
  links-alike i outs names (x ∷ xs) [] os = refl
  links-alike i outs names (x ∷ xs) (c ∷ cs) os =
      ap (λ v. pick (same_outpoint x c.outpoint) v (differs i x c.outpoint))
      (ap (λ s. onward s (Next f)) (alike i c.output (partner_in os)) ∙ go (λ n. links-alike (suc i) (outs + one n) (names + one (is_name c.output.kind)) xs cs (others os)) (g i c.output (partner_in os)))
    where
      Next : Rule → Bool → Verdict
      Next r n = links_from r (suc i) (outs + one n) (names + one (is_name c.output.kind)) xs cs (others os)

      go : ((n : Bool) → Next f n ≡ Next g n) → (s : Step) → onward s (Next f) ≡ onward s (Next g)
      go h (passes n) = h n
      go h (breaks k vs) = refl
