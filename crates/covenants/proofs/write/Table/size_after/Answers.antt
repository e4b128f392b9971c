use native.Mathlib.Omega.{arith}
use mathlib.Core.Path.{sym, ◌∙◌}
use lib.ListN.{get_or}
use Prim.Native.Nat.{◌+◌, ◌-◌}
use Rattle.encoding.proofs.Compact.{compact-size-most}
use Rattle.covenants.proofs.Checks.{size-long, size-over, size-more, size_none}
use Rattle.covenants.proofs.write.Table.size_after.Goals as goal

pub returns-then-n-gt-MAX_ITEM_SIZE : goal.returns-then-n-gt-MAX_ITEM_SIZE
returns-then-n-gt-MAX_ITEM_SIZE c = size-long _ _ _ _ {n = c.args.self.count - (c.loop-i.i + 1)} {n' = c.args.self.count - c.loop-i.i} (omega arith) c.if-n-gt-MAX_ITEM_SIZE.true ∙ c.loop-i.invariant.2

pub overflow_add-used : goal.overflow_add-used
overflow_add-used c = omega (arith, c.compact_size_len.ensures, compact-size-most (get_or c.args.self.lens.now (c.args.self.first + c.loop-i.i) 0))

pub overflow_add-used-in-loop-i : goal.overflow_add-used-in-loop-i
overflow_add-used-in-loop-i c = omega (arith, c.compact_size_len.ensures, compact-size-most (get_or c.args.self.lens.now (c.args.self.first + c.loop-i.i) 0))

pub returns-then-used-gt-MAX_ENCODED_SIZE : goal.returns-then-used-gt-MAX_ENCODED_SIZE
returns-then-used-gt-MAX_ENCODED_SIZE c = size-over _ _ _ _ {n = c.args.self.count - (c.loop-i.i + 1)} {n' = c.args.self.count - c.loop-i.i} (omega arith) c.if-n-gt-MAX_ITEM_SIZE.false c.compact_size_len.ensures c.if-used-gt-MAX_ENCODED_SIZE.true ∙ c.loop-i.invariant.2

pub loop-i-preserved : goal.loop-i-preserved
loop-i-preserved c = (omega arith, c.loop-i.invariant.1, sym (size-more _ _ _ _ {n = c.args.self.count - (c.loop-i.i + 1)} {n' = c.args.self.count - c.loop-i.i} (omega arith) c.if-n-gt-MAX_ITEM_SIZE.false c.compact_size_len.ensures (omega arith) c.if-used-gt-MAX_ENCODED_SIZE.false) ∙ c.loop-i.invariant.2)

pub returns : goal.returns
returns c = sym (size_none _ _ _ _ {n = c.args.self.count - c.loop-i.i} (omega arith)) ∙ c.loop-i.invariant.2
