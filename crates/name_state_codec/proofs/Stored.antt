-- What the reader answers of a state after its judgement.
use mathlib.Core.Path.{◌≡◌, refl, ap, sym, ◌∙◌}
use Prim.Native.Nat.{ℕ, ◌≤◌}
use mathlib.Core.List.{List, []}
use mathlib.Core.Bool.{Bool, true, false}
use lib.ListN.{length}
use lib.Dec.{eqb}
use Rattle.std.specs.Prelude.{Result, Ok, Err}
use Rattle.words.specs.Buffers.{pick}
use Rattle.refusal.specs.Outcome.{Outcome, ok, err, then, past}
use Rattle.refusal.specs.Paper.{stop_paper}
use Rattle.refusal.specs.declared.Stop.{Stop}
use Rattle.refusal.proofs.Outcomes.{never, past-err}
use Rattle.encoding.specs.Wire.{finish_at}
use Rattle.encoding.specs.Paper.{moved_paper}
use Rattle.encoding.specs.declared.read.Cursor.{Cursor}
use Rattle.name_state.specs.State.{State, bitmap, binding}
use Rattle.name_state.specs.Paper.{stored, state_of}
use Rattle.name_state.specs.declared.NameState.{NameState}
use Rattle.name_state.proofs.Theorems.{stored-holds}
use Rattle.name_state_codec.specs.Read.{standing_at}
use Rattle.name_state_codec.specs.Paper.{decoded}
use Rattle.name_state_codec.specs.Workers.{judged_bits}

-- a judgement that passed is of the state that was judged
judged-passed : (s : List ℕ) (b : ℕ) (g : State) (at : ℕ) {u : Unit} {p : ℕ} → past (judged_bits s (b, g) at) ≡ ok u p → judged_bits s (b, g) at ≡ ok g p
unfolding judged_bits
judged-passed s b g at {u} {p} = go (finish_at s at) (binding g) (eqb (bitmap g) b)
  where
    go : (o x : Outcome Unit) (y : Bool) → past (then o (λ u at. then (standing_at at x) (λ u p. pick y (ok g p) (err 8 [] p)))) ≡ ok u p
        → then o (λ u at. then (standing_at at x) (λ u p. pick y (ok g p) (err 8 [] p))) ≡ ok g p
    go (ok v q) (ok w r) true e = let h : q ≡ p = cc in ap (ok g) h
    go (ok v q) (ok w r) false e = absurd (never e refl)
    go (ok v q) (err k vs r) y e = absurd (never e refl)
    go (err k vs q) x y e = absurd (never e refl)

-- what is answered of a state after its judgement
abbrev pub answered : NameState → Result Cursor Stop → Outcome NameState
answered n (Ok end) = ok n end.position
answered n (Err s) = stop_paper s

pub judged-told : (s : List ℕ) (b : ℕ) (g : State) (at : ℕ) {n : NameState} (r : Result Cursor Stop) → n ≡ stored g → length g.name ≤ 63 → length g.resource ≤ 512
    → moved_paper r ≡ past (judged_bits s (b, state_of n) at) → decoded (judged_bits s (b, g) at) ≡ answered n r
judged-told s b g at {n} r e h k f = go r (f ∙ ap (λ (x : State). past (judged_bits s (b, x) at)) (ap state_of e ∙ stored-holds g h k))
  where
    go : (r : Result Cursor Stop) → moved_paper r ≡ past (judged_bits s (b, g) at) → decoded (judged_bits s (b, g) at) ≡ answered n r
    go (Ok end) f = rw (judged-passed s b g at (sym f), e)
    go (Err stop) f = rw (past-err (judged_bits s (b, g) at) (sym f))
