use native.Mathlib.Omega.{arith}
use mathlib.Core.Path.{ap}
use Prim.Native.Nat.{◌+◌}
use lib.ListN.{length}
use Rattle.encoding.proofs.Compact.{compact-size-most}
use Rattle.covenants.specs.Written.{parts}
use Rattle.covenants.proofs.Checks.{length-parts}
use Rattle.covenants.proofs.Laying.{whole-laid, items-room}
use Rattle.covenants.proofs.write.Table.write_all.Goals as goal

pub overflow_add-at-3 : goal.overflow_add-at-3
overflow_add-at-3 c = omega (arith, c.compact_size_len.ensures, compact-size-most c.args.self.count)

pub put_items-requires : goal.put_items-requires
put_items-requires c = record { there = c.requires.there; count_in_bounds = omega (arith, items-room c.args.at c.args.kind c.args.self.source.now c.args.self.starts.now c.args.self.lens.now c.args.self.first c.args.self.count (length c.args.dest.now) (ap (λ k. c.args.at + 1 + k) c.compact_size_len.ensures) c.requires.count_in_bounds, c.put_le.auto.d, c.put_compact_size.auto.d) }

pub returns : goal.returns
returns c = whole-laid c.args.at c.args.kind c.args.self.source.now (parts c.args.self.starts.now c.args.self.lens.now c.args.self.first c.args.self.count) c.args.self.count c.args.dest.now (length-parts c.args.self.starts.now c.args.self.lens.now c.args.self.first c.args.self.count) (omega arith) c.requires.count_in_bounds (ap (λ k. c.args.at + 1 + k) c.compact_size_len.ensures) c.put_le.ensures.d_after c.put_compact_size.ensures.1 c.put_items.ensures
