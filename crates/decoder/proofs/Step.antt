-- Reads in a row: each goes on where the one before it left the reader.
use mathlib.Core.Path.{◌≡◌, ap, ap₂, sym, ◌∙◌}
use Prim.Native.Nat.{ℕ}
use mathlib.Core.List.{List}
use Rattle.refusal.specs.Outcome.{Outcome, ok}
use Rattle.decoder.specs.Held.{decoder_after, stands}
use Rattle.decoder.specs.declared.Decoder.{Decoder}

-- a decoder over s that stands at p
pub record Over (s : List ℕ) (p : ℕ) (d : Decoder) : Type 0 where
  pub input : d.input.now ≡ s
  pub position : d.position ≡ p

-- what a read of it says
pub here : {X : Type 0} {s : List ℕ} {p : ℕ} {d : Decoder} (read : List ℕ → ℕ → Outcome X) {o : Outcome X} → Over s p d → o ≡ read d.input.now d.position → read s p ≡ o
here read w e = sym (e ∙ ap₂ read w.input w.position)

-- where it stands after a read that was not refused
pub step : {X : Type 0} {s : List ℕ} {p q : ℕ} {d d' : Decoder} {o : Outcome X} {x : X} → Over s p d → d' ≡ decoder_after d o → o ≡ ok x q → Over s q d'
step w e f = record { input = ap (λ (k : Decoder). k.input.now) e ∙ w.input; position = ap (λ (k : Decoder). k.position) e ∙ ap stands f }
