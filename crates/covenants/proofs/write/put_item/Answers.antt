use native.Mathlib.Omega.{arith}
use Rattle.encoding.proofs.Compact.{compact-size-most}
use Rattle.covenants.proofs.Checks.{item-long}
use Rattle.covenants.proofs.Laying.{item-laid, empty-laid}
use Rattle.covenants.proofs.write.put_item.Goals as goal

pub overflow_add-result : goal.overflow_add-result
overflow_add-result c = omega (arith, c.requires.1, compact-size-most c.args.n, item-long c.args.source.now c.args.from c.args.n c.requires.0)

pub returns-then-n-eq0 : goal.returns-then-n-eq0
returns-then-n-eq0 c = empty-laid c.args.source.now c.args.from c.args.n c.args.at c.args.dest.now (omega arith) c.requires.1 c.put_compact_size.ensures.1

pub overflow_add-result-2 : goal.overflow_add-result-2
overflow_add-result-2 c = omega (arith, c.requires.0, c.requires.1, c.compact_size_len.ensures, item-long c.args.source.now c.args.from c.args.n c.requires.0)

pub overflow_add-result-3 : goal.overflow_add-result-3
overflow_add-result-3 c = omega (arith, c.requires.0, c.requires.1, c.compact_size_len.ensures, item-long c.args.source.now c.args.from c.args.n c.requires.0)

pub returns : goal.returns
returns c = (omega (arith, c.compact_size_len.ensures, item-long c.args.source.now c.args.from c.args.n c.requires.0), item-laid c.args.source.now c.args.from c.args.n c.args.at c.args.dest.now c.requires.1 c.put_varbytes.ensures.1)
