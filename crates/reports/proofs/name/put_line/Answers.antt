use native.Mathlib.Omega.{arith}
use Prim.Native.Nat.{◌-◌, ◌+◌, ◌<◌}
use mathlib.Core.Path.{◌≡◌}
use lib.ListN.{length}
use borrow.Author.Tests.{lt-ltb, le-ltb}
use Rattle.reports.specs.Name.{name_line}
use Rattle.reports.proofs.name.put_line.Goals as goal

pub returns-in_default : goal.returns-in_default
unfolding name_line
returns-in_default c =
    let short : length c.args.file.now < 32 = c.in_default.ensures.cases in
    record { value = rw (lt-ltb _ _ short) c.put_refused.ensures.value; d_after = rw (lt-ltb _ _ short) c.put_refused.ensures.d_after }

pub returns : goal.returns
unfolding name_line
returns c =
    let parts = c.in-Some.ensures.cases in
    let size : length c.in-Some.record.now + 32 ≡ length c.args.file.now = parts.2 in
    let rest : length c.in-Some.record.now ≡ length c.args.file.now - 32 = omega (arith, size) in
    let long = le-ltb (length c.args.file.now) 32 (omega (arith, size)) in
    record {
      value = rw long (rw (rest, parts.0, parts.1) at c.put_record.ensures.value);
      d_after = rw long (rw (rest, parts.0, parts.1) at c.put_record.ensures.d_after);
    }
