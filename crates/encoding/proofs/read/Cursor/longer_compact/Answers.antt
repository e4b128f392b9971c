use native.Mathlib.Omega.{arith}
use borrow.Author.Tests.{le-ltb, eq-eqb, ne_eqb}
use Rattle.refusal.proofs.Outcomes.{told, raised}
use Rattle.encoding.specs.Wire.{compact_at}
use Rattle.encoding.specs.Paper.{read_as}
use Rattle.encoding.proofs.Fixed.{tag-above}
use Rattle.encoding.proofs.read.Cursor.longer_compact.Goals as goal

pub returns-in_err-tag : goal.returns-in_err-tag
unfolding compact_at
returns-in_err-tag c = rw (raised c.from_residual.ensures, ← c.read_le.ensures, c.in_err-tag.was)

pub returns-in-253 : goal.returns-in-253
unfolding compact_at
returns-in-253 c =
    let t = tag-above _ _ (omega arith) c.requires (told (read_as _) c.read_le.ensures c.in_ok-tag.was) in
    rw (← c.read_le.ensures, c.in_ok-tag.was, le-ltb _ _ t, eq-eqb _ _ c.in-253.is, ← c.fixed.ensures) c.shortest.ensures

pub returns-in-254 : goal.returns-in-254
unfolding compact_at
returns-in-254 c =
    let t = tag-above _ _ (omega arith) c.requires (told (read_as _) c.read_le.ensures c.in_ok-tag.was) in
    rw (← c.read_le.ensures, c.in_ok-tag.was, le-ltb _ _ t, ne_eqb c.in_ok-tag.tag 253 (omega arith), eq-eqb _ _ c.in-254.is, ← c.fixed-in-254.ensures) c.shortest-in-254.ensures

pub returns-in_default : goal.returns-in_default
unfolding compact_at
returns-in_default c =
    let t = tag-above _ _ (omega arith) c.requires (told (read_as _) c.read_le.ensures c.in_ok-tag.was) in
    rw (← c.read_le.ensures, c.in_ok-tag.was, le-ltb _ _ t, ne_eqb c.in_ok-tag.tag 253 (omega arith), ne_eqb c.in_ok-tag.tag 254 (omega arith), ← c.fixed-in_default.ensures) c.shortest-in_default.ensures
