use native.Mathlib.Omega.{arith}
use borrow.Author.Rules.{rules}
use mathlib.Core.Path.{◌≡◌, ◌∙◌}
use Rattle.covenants.specs.Covenant.{bytes_in}
use borrow.Author.Tests.{eq-eqb}
use Rattle.sheets.specs.Sheet.{place_at}
use Rattle.sheets.proofs.Reading.{part_fits, be_eight}
use Rattle.sheets.proofs.place_at.Goals as goal

pub returns : goal.returns
unfolding place_at
returns c =
    let fits = part_fits _ _ _ c.in_ok-next.ensures (omega arith) in
    let eight : c.unwrap.result ≡ bytes_in c.args.s.now (c.args.c.position, 8) = search rules in
    let value = c.from_be_bytes-value.ensures ∙ be_eight c.args.s.now c.args.c.position (omega (arith, fits)) eight in
    rw (← c.in_ok-next.ensures, eq-eqb _ _ c.if-last-ne0.false, ← value) c.place_body.ensures
