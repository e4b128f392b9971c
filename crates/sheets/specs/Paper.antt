-- What each answer says, in the document's numbers.
use Rattle.std.specs.Prelude.{ℕ, Some, None, Result, Ok, Err}
use Rattle.std.specs.Prelude as code
use Rattle.refusal.specs.Outcome.{Outcome, ok}
use Rattle.refusal.specs.Paper.{number_of, carried, stop_paper}
use Rattle.refusal.specs.declared.Stop.{Stop}
use Rattle.encoding.specs.declared.read.Cursor.{Cursor}
use Rattle.sheets.specs.Sheet as sheet
use Rattle.sheets.specs.Sheet.{Judged, whole, refused}
use Rattle.sheets.specs.Viewer as viewer
use Rattle.sheets.specs.declared.Counts.{Counts}
use Rattle.sheets.specs.declared.Head.{Head}
use Rattle.sheets.specs.declared.PairCounts.{PairCounts}
use Rattle.sheets.specs.declared.SheetStop.{SheetStop}
use Rattle.sheets.specs.declared.viewer.Sheet.{Sheet}
use Rattle.sheets.specs.declared.viewer.View.{View}

abbrev pub sheet_head_paper : Result (Head × Cursor) Stop → Outcome sheet.Head
sheet_head_paper (Ok r) = ok (record { version = r.0.version; counts = (r.0.first, r.0.outputs) }) r.1.position
sheet_head_paper (Err s) = stop_paper s

-- the counts of a sheet whose side is known
abbrev pub counts_paper : ℕ → Result Counts Stop → Judged (ℕ × ℕ)
counts_paper side (Ok c) = whole (c.inputs, c.outputs)
counts_paper side (Err s) = refused (number_of s.refusal) (carried s.refusal) side

abbrev pub sheet_paper : Result Counts SheetStop → Judged (ℕ × ℕ)
sheet_paper (Ok c) = whole (c.inputs, c.outputs)
sheet_paper (Err s) = refused (number_of s.refusal) (carried s.refusal) s.side

abbrev pub pair_paper : Result PairCounts SheetStop → Judged ((ℕ × ℕ) × (ℕ × ℕ))
pair_paper (Ok c) = whole ((c.inputs, c.outputs), (c.coins, 0))
pair_paper (Err s) = refused (number_of s.refusal) (carried s.refusal) s.side

abbrev pub in_sheet : Sheet → ℕ → ℕ → viewer.View
in_sheet Sheet.Transaction = viewer.in_transaction
in_sheet Sheet.Coins = viewer.in_coins

abbrev pub view_paper : code.Option View → viewer.View
view_paper (Some v) = in_sheet v.sheet v.part.start v.part.len
view_paper None = viewer.nowhere
