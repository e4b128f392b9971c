-- Two answers that say the same in the document's numbers are the same answer: each answer's paper is injective.
use mathlib.Core.Path.{◌≡◌, refl, ap}
use Prim.Native.Nat.{ℕ}
use mathlib.Core.List.{List}
use Rattle.std.specs.Prelude.{Result, Ok, Err, Some, None}
use Rattle.std.specs.Prelude as code
use Rattle.refusal.specs.Outcome.{Outcome, ok, err}
use Rattle.refusal.specs.Paper.{number_of, carried}
use Rattle.refusal.specs.declared.Stop.{Stop}
use Rattle.refusal.proofs.Same.{one-to-one, refusal, refusal-back, stop, stop-back}
use Rattle.encoding.specs.declared.read.Cursor.{Cursor}
use Rattle.encoding.specs.declared.read.Span.{Span}
use Rattle.encoding.proofs.Same.{cursor}
use Rattle.sheets.specs.Sheet as sheet
use Rattle.sheets.specs.Sheet.{Judged, whole, refused}
use Rattle.sheets.specs.Viewer as viewer
use Rattle.sheets.specs.Paper.{sheet_head_paper, sheet_paper, pair_paper, view_paper}
use Rattle.sheets.specs.declared.Counts.{Counts}
use Rattle.sheets.specs.declared.Head.{Head}
use Rattle.sheets.specs.declared.PairCounts.{PairCounts}
use Rattle.sheets.specs.declared.SheetStop.{SheetStop}
use Rattle.sheets.specs.declared.viewer.Sheet.{Sheet}
use Rattle.sheets.specs.declared.viewer.View.{View}

head-back : Outcome sheet.Head → Result (Head × Cursor) Stop
head-back (ok head next) = Ok (record { version = head.version; first = head.counts.0; outputs = head.counts.1 }, cursor next)
head-back (err k vs p) = Err (stop k vs p)

pub head-same : {r r' : Result (Head × Cursor) Stop} → sheet_head_paper r ≡ sheet_head_paper r' → r ≡ r'
unfolding head-back
head-same = one-to-one sheet_head_paper head-back (elim [ Ok r ↦ refl | Err s ↦ ap Err (stop-back s) ])

abbrev sheet-stop : ℕ → List ℕ → ℕ → SheetStop
sheet-stop k vs side = record { refusal = refusal k vs; side = side }

sheet-stop-back : (s : SheetStop) → sheet-stop (number_of s.refusal) (carried s.refusal) s.side ≡ s
sheet-stop-back s = ap (λ r. record { refusal = r; side = s.side }) (refusal-back s.refusal)

sheet-back : Judged (ℕ × ℕ) → Result Counts SheetStop
sheet-back (whole counts) = Ok (record { inputs = counts.0; outputs = counts.1 })
sheet-back (refused k vs side) = Err (sheet-stop k vs side)

pub sheet-same : {r r' : Result Counts SheetStop} → sheet_paper r ≡ sheet_paper r' → r ≡ r'
unfolding sheet-back
sheet-same = one-to-one sheet_paper sheet-back (elim [ Ok c ↦ refl | Err s ↦ ap Err (sheet-stop-back s) ])

pair-back : Judged ((ℕ × ℕ) × (ℕ × ℕ)) → Result PairCounts SheetStop
pair-back (whole counts) = Ok (record { inputs = counts.0.0; outputs = counts.0.1; coins = counts.1.0 })
pair-back (refused k vs side) = Err (sheet-stop k vs side)

pub pair_same : {r r' : Result PairCounts SheetStop} → pair_paper r ≡ pair_paper r' → r ≡ r'
unfolding pair-back
pair_same = one-to-one pair_paper pair-back (elim [ Ok c ↦ refl | Err s ↦ ap Err (sheet-stop-back s) ])

view-back : viewer.View → code.Option View
view-back (viewer.in_transaction start len) = Some (record { sheet = Sheet.Transaction; part = record { start = start; len = len } })
view-back (viewer.in_coins start len) = Some (record { sheet = Sheet.Coins; part = record { start = start; len = len } })
view-back viewer.nowhere = None

view-back-again : (v : View) → view-back (view_paper (Some v)) ≡ Some v
unfolding view-back
view-back-again v = go v.sheet v.part
  where
    go : (on : Sheet) (part : Span) → view-back (view_paper (Some (record { sheet = on; part = part }))) ≡ Some (record { sheet = on; part = part })
    go Sheet.Transaction part = refl
    go Sheet.Coins part = refl

pub view-same : {r r' : code.Option View} → view_paper r ≡ view_paper r' → r ≡ r'
unfolding view-back
view-same = one-to-one view_paper view-back (elim [ Some v ↦ view-back-again v | None ↦ refl ])
