use native.Mathlib.Omega.{arith}
use Prim.Native.Nat.{◌+◌, ◌≤◌, ◌<◌}
use lib.ListN.{length}
use borrow.Author.Tests.{lt-ltb, le-ltb}
use Rattle.covenants.specs.Written.{entry_held}
use Rattle.covenants.proofs.write.Table.holds.Goals as goal

pub returns-then-self-i : goal.returns-then-self-i
unfolding entry_held
returns-then-self-i c = rw (le-ltb _ _ (let h : length c.args.self.starts.now ≤ c.args.self.first + c.args.i = omega arith in h))

pub returns-then-entry-self : goal.returns-then-entry-self
unfolding entry_held
returns-then-entry-self c = rw (lt-ltb _ _ (let h : c.args.self.first + c.args.i < length c.args.self.starts.now = omega arith in h), lt-ltb _ _ c.if-entry-self.true) c.has_room.ensures

pub returns-else-entry-self : goal.returns-else-entry-self
unfolding entry_held
returns-else-entry-self c = rw (lt-ltb _ _ (let h : c.args.self.first + c.args.i < length c.args.self.starts.now = omega arith in h), le-ltb _ _ c.if-entry-self.false)
