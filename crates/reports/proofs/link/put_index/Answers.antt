use native.Mathlib.Omega.{arith}
use borrow.Author.Tests.{le-leb, lt-leb}
use Rattle.reports.proofs.Line.{nothing_put}
use Rattle.reports.proofs.link.put_index.Goals as goal

pub returns-in_default : goal.returns-in_default
returns-in_default c = let none = nothing_put _ _ c.requires in record { value = rw (lt-leb 12 c.args.number (omega arith)) none.0; d_after = rw (lt-leb 12 c.args.number (omega arith)) none.1 }

pub returns-in_default-2 : goal.returns-in_default-2
returns-in_default-2 c =
    let none = nothing_put _ _ c.requires in
    record { value = rw (le-leb 12 c.args.number (omega arith), lt-leb c.args.number 26 (omega arith)) none.0; d_after = rw (le-leb 12 c.args.number (omega arith), lt-leb c.args.number 26 (omega arith)) none.1 }
