-- Two answers that say the same in the document's numbers are the same answer: each answer's paper is injective.
use mathlib.Core.Path.{◌≡◌, refl, ap}
use Prim.Native.Nat.{ℕ}
use mathlib.Core.List.{List}
use mathlib.Core.Option.{Option, some, none}
use Rattle.std.specs.Prelude as code
use Rattle.std.specs.Prelude.{Result, Ok, Err, Some, None}
use Rattle.refusal.specs.Outcome.{Outcome, ok, err}
use Rattle.refusal.specs.declared.Stop.{Stop}
use Rattle.refusal.proofs.Same.{one-to-one, stop, stop-back}
use Rattle.encoding.specs.declared.read.Cursor.{Cursor}
use Rattle.encoding.specs.declared.read.Span.{Span}
use Rattle.encoding.proofs.Same.{cursor}
use Rattle.primitives.specs.declared.NameHash.{NameHash}
use Rattle.covenants.specs.Covenant.{Skimmed}
use Rattle.covenants.specs.Paper.{covenant_paper, decoded_paper, spot_paper, number_paper, name_hash_paper}
use Rattle.covenants.specs.declared.Accepted.{Accepted}
use Rattle.covenants.specs.declared.Covenant.{Covenant}
use Rattle.covenants.specs.declared.decode.Decoded.{Decoded}

covenant-back : Outcome Skimmed → Result (Accepted × Cursor) Stop
covenant-back (ok said p) = Ok (record { kind = said.0; count = said.1; used = said.2 }, cursor p)
covenant-back (err k vs p) = Err (stop k vs p)

pub covenant-same : {r r' : Result (Accepted × Cursor) Stop} → covenant_paper r ≡ covenant_paper r' → r ≡ r'
unfolding covenant-back
covenant-same = one-to-one covenant_paper covenant-back (elim [ Ok r ↦ refl | Err s ↦ ap Err (stop-back s) ])

decoded-back : Outcome (Covenant × ℕ) → Result (Decoded × Cursor) Stop
decoded-back (ok c p) = Ok (record { covenant = c.0; used = c.1 }, cursor p)
decoded-back (err k vs p) = Err (stop k vs p)

pub decoded-same : {r r' : Result (Decoded × Cursor) Stop} → decoded_paper r ≡ decoded_paper r' → r ≡ r'
unfolding decoded-back
decoded-same = one-to-one decoded_paper decoded-back (elim [ Ok r ↦ refl | Err s ↦ ap Err (stop-back s) ])

spot_back : Option (ℕ × ℕ) → code.Option Span
spot_back (some part) = Some (record { start = part.0; len = part.1 })
spot_back none = None

pub spot-same : {r r' : code.Option Span} → spot_paper r ≡ spot_paper r' → r ≡ r'
unfolding spot_back
spot-same = one-to-one spot_paper spot_back (elim [ Some part ↦ refl | None ↦ refl ])

-- where a value is told by its number
module _ {T : Type 0} (number : T → ℕ) (same : (x y : T) → number x ≡ number y → x ≡ y) where
  pub number-same : {r r' : code.Option T} → number_paper number r ≡ number_paper number r' → r ≡ r'
  number-same {r} {r'} = go r r'
    where
      go : (r r' : code.Option T) → number_paper number r ≡ number_paper number r' → r ≡ r'
      go (Some x) (Some y) e = let h : number x ≡ number y = cc in ap Some (same x y h)
      go (Some x) None e = absurd cc
      go None (Some y) e = absurd cc
      go None None e = refl

hash-back : Option (List ℕ) → code.Option NameHash
hash-back (some bs) = Some (record { 0 = bs })
hash-back none = None

pub name-hash-same : {r r' : code.Option NameHash} → name_hash_paper r ≡ name_hash_paper r' → r ≡ r'
unfolding hash-back
name-hash-same = one-to-one name_hash_paper hash-back (elim [ Some h ↦ refl | None ↦ refl ])
