-- The reader's answer, as what was read.
use mathlib.Core.Path.{◌≡◌, refl, ap, ◌∙◌}
use Prim.Native.Nat.{ℕ}
use mathlib.Core.List.{List}
use Rattle.std.specs.Prelude.{Result, Ok, Err}
use Rattle.refusal.specs.Outcome.{Outcome, ok, err, then}
use Rattle.refusal.specs.declared.Stop.{Stop}
use Rattle.encoding.specs.Paper.{read_paper}
use Rattle.encoding.specs.declared.read.Cursor.{Cursor}
use Rattle.name_state.specs.State.{State}
use Rattle.name_state.specs.Paper.{state_of}
use Rattle.name_state.specs.declared.NameState.{NameState}
use Rattle.name_state.proofs.Theorems.{stored-holds}
use Rattle.name_state_codec.specs.Read.{read_state}
use Rattle.name_state_codec.specs.Paper.{decoded, decoded_state}
use Rattle.name_state_codec.proofs.Theorems.{accepted}

-- the state that was read, where it was
abbrev held : Outcome NameState → Outcome State
held o = then o (λ n p. ok (state_of n) p)

held-read : (r : Result (NameState × Cursor) Stop) → decoded_state r ≡ held (read_paper r)
held-read (Ok r) = refl
held-read (Err s) = refl

-- where a record is accepted, its name and resource fit in the state's arrays
held-decoded : (key s : List ℕ) (o : Outcome State) → read_state key s ≡ o → held (decoded o) ≡ o
held-decoded key s (ok t p) e =
    let w = (accepted key s t p e).within in
    ap (λ x. ok x p) (stored-holds t w.name w.resource)
held-decoded key s (err k vs p) e = refl

pub decoded-read : (key s : List ℕ) (r : Result (NameState × Cursor) Stop) → read_paper r ≡ decoded (read_state key s) → decoded_state r ≡ read_state key s
decoded-read key s r e = held-read r ∙ ap held e ∙ held-decoded key s (read_state key s) refl
