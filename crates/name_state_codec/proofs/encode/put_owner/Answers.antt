use borrow.Author.Rules.{rules}
use native.Mathlib.Omega.{arith}
use mathlib.Core.Path.{◌≡◌, refl, ap, sym, ◌∙◌}
use Prim.Native.Nat.{◌+◌}
use lib.ListN.{length}
use Rattle.words.proofs.Laid.{Laid, both, laid-there}
use Rattle.encoding.specs.Wire.{compact}
use Rattle.encoding.proofs.Compact.{length-compact}
use Rattle.name_state_codec.proofs.Fields.{an-owner, owner-long}
use Rattle.name_state_codec.proofs.encode.put_owner.Goals as goal

pub returns : goal.returns
returns c =
    let a = c.args in
    let h : length a.o.transaction_hash.0 ≡ 32 = search rules in
    let n = sym c.is_null.ensures ∙ c.if-is_null.false in
    let e = an-owner a.o n in
    let l = owner-long a.o h n in
    let A = laid-there a.d.now a.at a.o.transaction_hash.0 32 h (omega (arith, l, c.requires)) refl c.put_bytes.ensures.1 in
    let p = rw c.from.ensures at c.put_size.ensures in
    let B : Laid c.put_bytes.new.d (a.at + 32) (compact a.o.index) c.put_size.new.d c.put_size.result = record { ends = omega (arith, p.0, length-compact a.o.index); holds = p.1 } in
    let r = both (omega (arith, ap length e, c.requires)) A B in
    rw e (r.ends, r.holds)
