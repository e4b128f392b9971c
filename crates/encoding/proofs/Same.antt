-- Two answers that say the same in the document's numbers are the same answer: each answer's paper is injective.
use mathlib.Core.Path.{◌≡◌, refl, ap, ap₂, sym, ◌∙◌}
use mathlib.Core.List.{[]}
use Prim.Native.Nat.{ℕ}
use Rattle.std.specs.Prelude.{Result, Ok, Err}
use Rattle.refusal.specs.Outcome.{Outcome, ok, err}
use Rattle.refusal.specs.declared.Stop.{Stop}
use Rattle.refusal.proofs.Same.{one-to-one, stop, stop-back}
use Rattle.encoding.specs.Paper.{read_as, read_paper, span_paper, moved_paper}
use Rattle.encoding.specs.declared.read.Cursor.{Cursor}
use Rattle.encoding.specs.declared.read.Span.{Span}

abbrev pub cursor : ℕ → Cursor
cursor p = record { position = p }

module _ {A : Type 0} where
  read-back : Outcome A → Result (A × Cursor) Stop
  read-back (ok a p) = Ok (a, cursor p)
  read-back (err k vs p) = Err (stop k vs p)

  pub read-same : {r r' : Result (A × Cursor) Stop} → read_paper r ≡ read_paper r' → r ≡ r'
  unfolding read-back
  read-same = one-to-one read_paper read-back (elim [ Ok r ↦ refl | Err s ↦ ap Err (stop-back s) ])

-- where what is read can be told from what it means
module _ {A B : Type 0} (mean : A → B) (one : (x y : A) → mean x ≡ mean y → x ≡ y) where
  stop-told : Outcome B → Stop
  stop-told (ok b p) = stop 0 [] p
  stop-told (err k vs p) = stop k vs p

  pub read-as-same : {r r' : Result (A × Cursor) Stop} → read_as mean r ≡ read_as mean r' → r ≡ r'
  unfolding stop-told
  read-as-same {r} {r'} e = go r r' e
    where
      go : (r r' : Result (A × Cursor) Stop) → read_as mean r ≡ read_as mean r' → r ≡ r'
      go (Ok x) (Ok y) e =
          let h : mean x.0 ≡ mean y.0 = cc in
          let p : x.1.position ≡ y.1.position = cc in
          ap₂ (λ a q. Ok (a, cursor q)) (one x.0 y.0 h) p
      go (Ok x) (Err s) e = absurd cc
      go (Err s) (Ok y) e = absurd cc
      go (Err s) (Err t) e = ap Err (sym (stop-back s) ∙ ap stop-told e ∙ stop-back t)

span-back : Outcome (ℕ × ℕ) → Result (Span × Cursor) Stop
span-back (ok part p) = Ok (record { start = part.0; len = part.1 }, cursor p)
span-back (err k vs p) = Err (stop k vs p)

pub span_same : {r r' : Result (Span × Cursor) Stop} → span_paper r ≡ span_paper r' → r ≡ r'
unfolding span-back
span_same = one-to-one span_paper span-back (elim [ Ok r ↦ refl | Err s ↦ ap Err (stop-back s) ])

moved_back : Outcome Unit → Result Cursor Stop
moved_back (ok v p) = Ok (cursor p)
moved_back (err k vs p) = Err (stop k vs p)

pub moved_same : {r r' : Result Cursor Stop} → moved_paper r ≡ moved_paper r' → r ≡ r'
unfolding moved_back
moved_same = one-to-one moved_paper moved_back (elim [ Ok c ↦ refl | Err s ↦ ap Err (stop-back s) ])
