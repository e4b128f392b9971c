-- What an outcome tells of the reads that it was made of.
use mathlib.Core.Path.{◌≡◌, refl, sym, ap, ◌∙◌}
use Prim.Native.Nat.{ℕ}
use native.Mathlib.Omega.{arith}
use mathlib.Core.List.{List}
use mathlib.Core.Bool.{Bool, true, false}
use Rattle.std.specs.Prelude.{Result, Err, IsErr, IsErrAnd}
use Rattle.std.proofs.lemmas.Result.{err_from_is_err_and}
use Rattle.words.specs.Buffers.{pick}
use Rattle.refusal.specs.Outcome.{Stand, Outcome, ok, err, then, past, Wrote, wrote, refused, next}

-- `f r ≡ y` is what a callee ensures, and `r ≡ r'` what the arm of a match knows: y is what f says of r'
pub told : {X Y : Type 0} (f : X → Y) {r r' : X} {y : Y} → f r ≡ y → r ≡ r' → y ≡ f r'
told f e k = sym e ∙ ap f k

-- what a `?` hands out is the error that it was given
pub raised : {T E : Type 0} {r : Result T E} {e : E} → IsErr r × IsErrAnd r (λ x. x ≡ e) → r ≡ Err e
raised {r = r} h = let k = err_from_is_err_and r h.1 in k.1 ∙ ap Err k.2

-- an outcome is not both a value and a refusal
pub never : {A : Type 0} {o : Outcome A} {a : A} {p : ℕ} {k : ℕ} {vs : List ℕ} {q : Stand} → o ≡ ok a p → o ≡ err k vs q → ⊥
never e f = let z : ◌≡◌ {A = ℕ} 0 1 = cc in omega arith

-- two reads that gave a value: the first gave one, and then the second
pub then_ok : {A B : Type 0} (o : Outcome A) {f : A → ℕ → Outcome B} {b : B} {q : ℕ} → then o f ≡ ok b q → (a : A) × (p : ℕ) × (o ≡ ok a p) × (f a p ≡ ok b q)
then_ok (ok a p) e = (a, p, refl, e)
then_ok (err k vs p) {f} {b} {q} e = absurd (never e refl)

-- a test that refuses, passed
pub passed : {A : Type 0} (t : Bool) (k : ℕ) (vs : List ℕ) (q : Stand) (o : Outcome A) {a : A} {p : ℕ} → pick t (err k vs q) o ≡ ok a p → (t ≡ false) × (o ≡ ok a p)
passed true k vs q o e = absurd (never e refl)
passed false k vs q o e = (refl, e)

-- a refused read, and what was to come after it
pub then-err : {A B : Type 0} (o : Outcome A) (f : A → ℕ → Outcome B) {k : ℕ} {vs : List ℕ} {q : Stand} → past o ≡ err k vs q → then o f ≡ err k vs q
then-err (ok a p) f e = absurd (never refl e)
then-err (err k vs p) f e = cc

-- a read whose end is known gave something
pub past-ok : {A : Type 0} (o : Outcome A) {q : ℕ} {u : Unit} → past o ≡ ok u q → (a : A) × (o ≡ ok a q)
past-ok (ok a p) {q} e = let h : p ≡ q = cc in (a, ap (ok a) h)
past-ok (err k vs p) e = absurd (never e refl)

pub past-err : {A : Type 0} (o : Outcome A) {k : ℕ} {vs : List ℕ} {q : Stand} → past o ≡ err k vs q → o ≡ err k vs q
past-err (ok a p) e = absurd (never refl e)
past-err (err k vs p) e = cc

-- reads in a row, however they are bracketed
pub then-assoc : {A B C : Type 0} (o : Outcome A) (f : A → ℕ → Outcome B) (g : B → ℕ → Outcome C) → then (then o f) g ≡ then o (λ a p. then (f a p) g)
then-assoc (ok a p) f g = refl
then-assoc (err k vs p) f g = refl

-- the same first read, and then what comes to the same
pub then-under : {A B : Type 0} (o : Outcome A) (f g : A → ℕ → Outcome B) → ((a : A) (p : ℕ) → f a p ≡ g a p) → then o f ≡ then o g
then-under (ok a p) f g h = h a p
then-under (err k vs p) f g h = refl

-- a read whose value is not looked at, and then another
pub then-past : {A B : Type 0} (o : Outcome A) (f : ℕ → Outcome B) {u : Unit} {q : ℕ} → past o ≡ ok u q → then o (λ a p. f p) ≡ f q
then-past (ok a p) f {u} {q} e = let h : p ≡ q = cc in ap f h
then-past (err k vs p) f e = absurd (never e refl)

-- a test that refuses where it fails, passed
pub kept : {A : Type 0} (t : Bool) (k : ℕ) (vs : List ℕ) (q : Stand) (o : Outcome A) {a : A} {p : ℕ} → pick t o (err k vs q) ≡ ok a p → (t ≡ true) × (o ≡ ok a p)
kept true k vs q o e = (refl, e)
kept false k vs q o e = absurd (never e refl)

-- what holds of one answer holds of the same answer
pub ok-to : {A : Type 0} {a b : A} {p q : ℕ} (P : A → ℕ → Type 0) → ◌≡◌ {A = Outcome A} (ok a p) (ok b q) → P a p → P b q
ok-to {A} {a} {b} {p} {q} P e h =
    let x : a ≡ b = cc in
    let y : p ≡ q = cc in
    rw (← x, ← y) h

-- a read whose value is only changed ends where it ends
pub past-then : {A B : Type 0} (o : Outcome A) (f : A → B) → past (then o (λ a p. ok (f a) p)) ≡ past o
past-then (ok a p) f = refl
past-then (err k vs p) f = refl

-- two reads, both of whose values are kept, end where the second ends
module _ {A B C : Type 0} (o : Outcome A) (f : ℕ → Outcome B) (both : A → B → C) where
  abbrev pub Both : Outcome C
  Both = then o (λ a p. then (f p) (λ b q. ok (both a b) q))

  pub past_next : {p : ℕ} → past o ≡ ok tt p → past Both ≡ past (f p)
  past_next {p} = go o
    where
      go : (o : Outcome A) → past o ≡ ok tt p → past (then o (λ a p. then (f p) (λ b q. ok (both a b) q))) ≡ past (f p)
      go (ok a q) e = let h : q ≡ p = cc in rw h (past-then (f p) (both a))
      go (err k vs q) e = absurd (never e refl)

  pub past-cut : {k : ℕ} {vs : List ℕ} {p : Stand} → past o ≡ err k vs p → past Both ≡ err k vs p
  past-cut e = ap past (then-err o (λ a p. then (f p) (λ b q. ok (both a b) q)) e)

-- ---- writes

-- a write is not both done and refused
pub never_both : {w : Wrote} {n k : ℕ} {vs : List ℕ} → w ≡ wrote n → w ≡ refused k vs → ⊥
never_both e f = let z : ◌≡◌ {A = ℕ} 0 1 = cc in omega arith

-- two checks of a writer that passed: the first did, and then the second
pub next-ok : (w : Wrote) {f : ℕ → Wrote} {n : ℕ} → next w f ≡ wrote n → (m : ℕ) × (w ≡ wrote m) × (f m ≡ wrote n)
next-ok (wrote m) e = (m, refl, e)
next-ok (refused k vs) {f} {n} e = absurd (never_both e refl)

-- a test of a writer that refuses, passed
pub checked : (t : Bool) (k : ℕ) (vs : List ℕ) (w : Wrote) {n : ℕ} → pick t (refused k vs) w ≡ wrote n → (t ≡ false) × (w ≡ wrote n)
checked true k vs w e = absurd (never_both e refl)
checked false k vs w e = (refl, e)
