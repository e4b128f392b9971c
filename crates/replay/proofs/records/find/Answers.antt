use mathlib.Core.Path.{sym, ◌∙◌}
use Prim.Native.Nat.{◌+◌}
use borrow.Author.Tests.{le-ltb}
use Rattle.replay.specs.Answers.{record_at}
use Rattle.replay.proofs.Entries.{unknown, unnumbered}
use Rattle.replay.proofs.records.find.Goals as goal

pub returns-in_err-entry-clause-record : goal.returns-in_err-entry-clause-record
unfolding record_at
returns-in_err-entry-clause-record c =
    let none = unnumbered _ c.try_from.result (sym c.ok.ensures.value ∙ c.in_err-entry.was) c.try_from.ensures in
    rw (c.from_residual.ensures, le-ltb _ _ c.if-left-lt9.false, ← c.size_at-n.ensures, le-ltb _ _ c.if-left-n.false) (sym (unknown c.args.s.now _ (c.args.at + 5) (c.args.at + 5 + c.size_at-n.result) none))
