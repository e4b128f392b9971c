-- Answers from their pieces.
use mathlib.Core.Path.{◌≡◌, refl}
use mathlib.Core.Bool.{Bool, true, false}
use mathlib.Core.List.{List, [], ◌∷◌, ◌++◌}
use Prim.Native.Nat.{ℕ}
use Rattle.words.specs.Words.{bytes}
use Rattle.refusal.specs.Outcome.{Outcome, ok, err, then}
use Rattle.covenants.specs.Covenant.{Reading, skimmed}
use Rattle.covenants.specs.Paper.{directory_of, decoded}
use Rattle.covenants.specs.declared.Covenant.{Covenant}
use mir.Val.{bool_byte}
use Rattle.name_state.specs.State.{bit}
use Rattle.replay.specs.Answers.{numbers}

-- four words
pub four-of : (a b c d : ℕ) {xs : List ℕ} → xs ≡ bytes 8 a ++ bytes 8 b ++ bytes 8 c ++ bytes 8 d → xs ≡ numbers (a ∷ b ∷ c ∷ d ∷ [])
unfolding numbers bytes
four-of a b c d p = rw p

-- twice four words
pub twice-four :
    (a b c d e f g h : ℕ) {xs ys zs : List ℕ} → zs ≡ xs ++ ys → xs ≡ bytes 8 a ++ bytes 8 b ++ bytes 8 c ++ bytes 8 d → ys ≡ bytes 8 e ++ bytes 8 f ++ bytes 8 g ++ bytes 8 h →
    zs ≡ numbers (a ∷ b ∷ c ∷ d ∷ e ∷ f ∷ g ∷ h ∷ [])
unfolding numbers bytes
twice-four a b c d e f g h r p q = rw (r, p, q)

-- a covenant that was decoded, without its directory
pub skimmed-decoded : (o : Outcome Reading) {d : Outcome (Covenant × ℕ)} → d ≡ decoded o → then d (λ c p. ok (c.0.kind, c.0.count, c.1) p) ≡ skimmed o
unfolding directory_of
skimmed-decoded (ok c p) e = rw e
skimmed-decoded (err k vs p) e = rw e

-- a flag is 1 or 0
pub flag : (set : Bool) → bool_byte set ≡ bit 1 set
flag true = refl
flag false = refl
