-- A commitment that is opened; the address that a transfer names.
use mathlib.Core.Path.{◌≡◌, refl, ap, subst, ◌∙◌}
use Prim.Native.Nat.{ℕ, ◌+◌, ◌^◌, ◌≤◌, ◌<◌}
use native.Mathlib.Omega.{arith}
use mathlib.Core.List.{List, [], ◌∷◌}
use mathlib.Core.Bool.{Bool, true, false}
use lib.ListN.{length, get_or}
use borrow.Author.Tests.{lt-ltb, le-ltb, eq-eqb, ne_eqb}
use Rattle.std.specs.Prelude.{Option, Some, None, Result, Ok, Err}
use Rattle.std.specs.Option.{ok_or}
use Rattle.std.specs.Result.{result_ok, MatchResult, IsErrAnd, IsOk}
use Rattle.words.specs.Sameness.{same}
use Rattle.refusal.specs.Outcome.{ok}
use Rattle.refusal.specs.declared.Stop.{Stop}
use Rattle.refusal.proofs.Outcomes.{never}
use Rattle.encoding.specs.Wire.{bytes_at}
use Rattle.encoding.specs.Paper.{read_paper}
use Rattle.encoding.specs.declared.read.Cursor.{Cursor}
use Rattle.encoding.proofs.Slice as slice
use Rattle.names.specs.Blind.{blind_of}
use Rattle.covenants.specs.Covenant.{bytes_in}
use Rattle.sheets.specs.Sheet.{Output}
use Rattle.checks.specs.Checks.{passes, breaks, check, same_address, opened, destined}
use Rattle.checks.specs.Workers.{Sizes}

-- what `ok_or` made of what was looked for
module _ {T E : Type 0} {r : Result T E} where
  pub present : {o : Option T} {x : T} → o ≡ result_ok r → r ≡ Ok x → o ≡ Some x
  present p q = p ∙ ap result_ok q

  pub absent : (o : Option T) (e : E) {e' : E} → r ≡ ok_or o e → r ≡ Err e' → (o ≡ None) × (e' ≡ e)
  absent (Some y) e p q = absurd (cc)
  absent None e p q = (refl, cc)

-- .. of an item of a width
module _ (s : List ℕ) (at k width : ℕ) {o : Option ℕ} (is : Sizes s at k width o) where
  pub sized_there : {E : Type 0} {r : Result ℕ E} {x : ℕ} → o ≡ result_ok r → r ≡ Ok x → Sizes s at k width (Some x)
  sized_there p q = subst (Sizes s at k width) (present p q) is

  pub sized-none : o ≡ None → Sizes s at k width None
  sized-none p = subst (Sizes s at k width) p is

-- .. and `map_err`, of an answer
module _ {T E D : Type 0} {m : Result T D} (Post : E → D → Type 0) where
  pub kept : (r : Result T E) {x : T} → MatchResult r (λ x. m ≡ Ok x) (λ e. IsErrAnd m (Post e)) → m ≡ Ok x → r ≡ Ok x
  kept (Ok y) p q = cc
  kept (Err e) p q = absurd (rw q at p)

  pub turned : (r : Result T E) {d : D} → MatchResult r (λ x. m ≡ Ok x) (λ e. IsErrAnd m (Post e)) → m ≡ Err d → (e : E) × (r ≡ Err e) × Post e d
  turned (Ok y) p q = absurd (cc)
  turned (Err e) p q = (e, refl, rw q at p)

-- 32 bytes that are there are read
module _ (s : List ℕ) (at : ℕ) (fits : (length s < 2 ^ 64) × (at + 32 ≤ length s)) (r : Result (List ℕ × Cursor) Stop) (is : read_paper r ≡ bytes_at 32 s at) where
  bytes-there : read_paper r ≡ ok (bytes_in s (at, 32)) (at + 32)
  unfolding bytes_at
  bytes-there = is ∙ rw (slice.within 32 s at (omega arith) fits.1)

  pub bytes-read : IsOk r
  bytes-read = go r bytes-there
    where
      go : (r : Result (List ℕ × Cursor) Stop) → read_paper r ≡ ok (bytes_in s (at, 32)) (at + 32) → IsOk r
      go (Ok x) e = refl
      go (Err stop) e = absurd (never e refl)

  pub bytes_are : {x : List ℕ × Cursor} → r ≡ Ok x → x.0 ≡ bytes_in s (at, 32)
  bytes_are {x} e = let h : ok x.0 x.1.position ≡ ok (bytes_in s (at, 32)) (at + 32) = rw e at bytes-there in cc

module _ (i : ℕ) (spent made : Output) where
  -- ---- a commitment

  pub open-first : (length (get_or made.items 2 []) ≡ 32 → ⊥) → breaks 15 (i ∷ 5 ∷ []) ≡ opened i spent made
  unfolding opened
  open-first h = rw (ne_eqb _ _ h)

  pub open-second : {x : List ℕ} → get_or made.items 2 [] ≡ x → length x ≡ 32 → (length (get_or spent.items 3 []) ≡ 32 → ⊥) → breaks 15 (i ∷ 6 ∷ []) ≡ opened i spent made
  unfolding opened
  open-second p l h = rw (p, eq-eqb _ _ l, ne_eqb _ _ h)

  module _ {x y : List ℕ} (p : get_or made.items 2 [] ≡ x) (l : length x ≡ 32) (q : get_or spent.items 3 [] ≡ y) (m : length y ≡ 32) where
    pub open-other : same (blind_of made.value x) y ≡ false → breaks 18 (i ∷ []) ≡ opened i spent made
    unfolding opened
    open-other e = rw (p, eq-eqb _ _ l, q, eq-eqb _ _ m, e)

    pub open-fine : same (blind_of made.value x) y ≡ true → passes true ≡ opened i spent made
    unfolding opened
    open-fine e = rw (p, eq-eqb _ _ l, q, eq-eqb _ _ m, e)

  -- ---- a transfer's address

  pub destined-other : (length (get_or spent.items 2 []) ≡ 1 → ⊥) → breaks 15 (i ∷ 7 ∷ []) ≡ destined i spent made
  unfolding destined
  destined-other h = rw (ne_eqb _ _ h)

  -- the version, and then item 3
  module _ {x : List ℕ} (p : get_or spent.items 2 [] ≡ x) (l : length x ≡ 1) where
    pub destined-absent : length spent.items ≤ 3 → breaks 15 (i ∷ 8 ∷ []) ≡ destined i spent made
    unfolding destined
    destined-absent h = rw (p, eq-eqb _ _ l, le-ltb _ _ h)

    pub destined-there : {version : ℕ} {y : List ℕ} {t : Bool} → get_or x 0 0 ≡ version → 3 < length spent.items → get_or spent.items 3 [] ≡ y → same_address made.address (version, y) ≡ t
        → check t 23 (i ∷ []) ≡ destined i spent made
    unfolding destined
    destined-there v h q e = rw (p, eq-eqb _ _ l, v, lt-ltb _ _ h, q, e)
