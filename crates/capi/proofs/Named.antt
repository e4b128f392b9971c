-- A name's hash, and the number beside it.
use mathlib.Core.Path.{◌≡◌, refl, ap, ◌∙◌}
use Prim.Native.Nat.{ℕ}
use mathlib.Core.List.{List}
use Rattle.refusal.specs.Outcome.{Outcome, ok, err, refused_by}
use Rattle.names.specs.Name.{name_hash}
use Rattle.names.specs.Paper.{shown_hash}

hash-number : (o : Outcome (List ℕ)) → refused_by (shown_hash o).0 ≡ refused_by o
hash-number (ok h p) = refl
hash-number (err k vs p) = refl

pub hashed : (s : List ℕ) {w : Outcome Unit} {h : List ℕ} {n : ℕ} → n ≡ refused_by w → (w, h) ≡ shown_hash (name_hash s) → (n ≡ refused_by (name_hash s)) × (h ≡ (shown_hash (name_hash s)).1)
hashed s k e = (k ∙ ap (λ (t : Outcome Unit × List ℕ). refused_by t.0) e ∙ hash-number (name_hash s), ap (λ (t : Outcome Unit × List ℕ). t.1) e)
