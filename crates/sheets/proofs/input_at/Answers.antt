use native.Mathlib.Omega.{arith}
use borrow.Author.Rules.{rules}
use mathlib.Core.Path.{◌≡◌, ◌∙◌}
use Rattle.covenants.specs.Covenant.{bytes_in}
use Prim.Native.Nat.{◌+◌}
use Rattle.sheets.specs.Sheet.{input_at}
use Rattle.sheets.proofs.Reading.{part_fits, be_four}
use Rattle.sheets.proofs.input_at.Goals as goal

pub returns : goal.returns
unfolding input_at
returns c =
    let s = c.args.s.now in
    let at = c.args.c.position in
    let fits = part_fits _ _ _ c.in_ok-next.ensures (omega arith) in
    let hash : c.unwrap.result ≡ bytes_in s (at, 32) = search rules in
    let four : c.unwrap-2.result ≡ bytes_in s (at + 32, 4) = search rules in
    let index = c.from_be_bytes.ensures ∙ be_four s (at + 32) (omega (arith, fits)) four in
    rw (← c.in_ok-next.ensures, hash, index)
