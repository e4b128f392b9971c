use native.Mathlib.Omega.{arith}
use mathlib.Core.Path.{sym, ◌∙◌}
use Prim.Native.Nat.{◌+◌, ◌≤◌}
use lib.ListN.{length}
use borrow.Author.Tests.{leb-true, leb-false}
use Rattle.encoding.proofs.Compact.{length-compact, put-room, put-none}
use Rattle.encoding.proofs.put.put_compact_size.Goals as goal

pub put_compact-requires : goal.put_compact-requires
put_compact-requires c =
    let h : c.args.at + c.compact_size_len-n.result ≤ length c.args.d.now = leb-true _ _ (sym c.has_room.ensures ∙ c.if-has_room.true) in
    omega (arith, c.compact_size_len-n.ensures)

pub returns-then-has_room : goal.returns-then-has_room
returns-then-has_room c = put-room _ _ _ _ (length-compact _ ∙ sym c.compact_size_len-n.ensures) (leb-true _ _ (sym c.has_room.ensures ∙ c.if-has_room.true)) c.put_compact.ensures

pub returns : goal.returns
returns c = put-none _ _ _ _ (length-compact _ ∙ sym c.compact_size_len-n.ensures) (leb-false _ _ (sym c.has_room.ensures ∙ c.if-has_room.false))
