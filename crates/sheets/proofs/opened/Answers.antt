use native.Mathlib.Omega.{arith}
use mathlib.Core.Path.{sym, ◌∙◌}
use borrow.Author.Tests.{le-ltb}
use Rattle.refusal.proofs.Outcomes.{raised}
use Rattle.words.specs.Words.{be}
use Rattle.covenants.specs.Covenant.{bytes_in}
use Rattle.encoding.proofs.Fixed.{bytes_read}
use Rattle.sheets.specs.Sheet.{head_fields, sheet_head_at}
use Rattle.sheets.specs.Workers.{opened_at}
use Rattle.sheets.proofs.Reading.{be_four, bytes-then}
use Rattle.sheets.proofs.opened.Goals as goal

pub returns-in_err-fields : goal.returns-in_err-fields
unfolding opened_at sheet_head_at
returns-in_err-fields c = rw (le-ltb _ _ c.if-s-gt-LONGEST.false, bytes-then 4 c.args.s.now 0 (head_fields c.args.side (be (bytes_in c.args.s.now (0, 4)))), ← c.in_err-fields.ensures, raised c.from_residual.ensures)

pub returns : goal.returns
unfolding opened_at sheet_head_at
returns c =
    let bytes = bytes_read _ _ _ (omega arith) (sym c.in_ok-fields.ensures) in
    let fields = c.from_be_bytes.ensures ∙ be_four c.args.s.now 0 bytes.fits bytes.are in
    rw (le-ltb _ _ c.if-s-gt-LONGEST.false, bytes-then 4 c.args.s.now 0 (head_fields c.args.side (be (bytes_in c.args.s.now (0, 4)))), ← c.in_ok-fields.ensures, ← fields) c.head_fields.ensures
