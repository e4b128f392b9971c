use native.Mathlib.Omega.{arith}
use mathlib.Core.Path.{ap, sym, ◌∙◌}
use Prim.Native.Nat.{ℕ, ◌+◌, ◌≤◌}
use lib.ListN.{length}
use borrow.Author.Tests.{leb-true, leb-false}
use Rattle.encoding.proofs.Compact.{length-varbytes, compact-size-most, varbytes-over, put-room, put-none}
use Rattle.encoding.proofs.put.put_varbytes.Goals as goal

pub overflow_add-n : goal.overflow_add-n
overflow_add-n c = omega (arith, c.compact_size_len-prefix.ensures, compact-size-most (length c.args.value.now))

pub put_compact-requires : goal.put_compact-requires
put_compact-requires c =
    let h : c.args.at + (c.compact_size_len-prefix.result + length c.args.value.now) ≤ length c.args.d.now = leb-true _ _ (sym c.has_room.ensures ∙ c.if-has_room.true) in
    omega (arith, c.compact_size_len-prefix.ensures)

pub overflow_add-at : goal.overflow_add-at
overflow_add-at c =
    let h : c.args.at + (c.compact_size_len-prefix.result + length c.args.value.now) ≤ length c.args.d.now = leb-true _ _ (sym c.has_room.ensures ∙ c.if-has_room.true) in
    omega arith

pub returns-then-has_room : goal.returns-then-has_room
returns-then-has_room c =
    let h = leb-true _ _ (sym c.has_room.ensures ∙ c.if-has_room.true) in
    put-room _ _ _ _ (length-varbytes _ (ap (λ (k : ℕ). k + length c.args.value.now) c.compact_size_len-prefix.ensures)) h (varbytes-over _ _ _ _ c.compact_size_len-prefix.ensures h c.put_compact.ensures c.put_bytes.ensures.1)

pub returns : goal.returns
returns c = put-none _ _ _ _ (length-varbytes _ (ap (λ (k : ℕ). k + length c.args.value.now) c.compact_size_len-prefix.ensures)) (leb-false _ _ (sym c.has_room.ensures ∙ c.if-has_room.false))
