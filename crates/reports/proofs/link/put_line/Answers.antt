use borrow.Author.Tests.{lt-ltb, le-ltb}
use Rattle.reports.specs.Link.{link_line}
use Rattle.reports.proofs.Judgement.{answer-line}
use Rattle.reports.proofs.link.put_line.Goals as goal

pub returns-then-tx-gt-LONGEST : goal.returns-then-tx-gt-LONGEST
unfolding link_line
returns-then-tx-gt-LONGEST c = record { value = rw (lt-ltb _ _ c.if-tx-gt-LONGEST.true) c.put_refused.ensures.value; d_after = rw (lt-ltb _ _ c.if-tx-gt-LONGEST.true) c.put_refused.ensures.d_after }

pub returns-then-coins-gt-LONGEST : goal.returns-then-coins-gt-LONGEST
unfolding link_line
returns-then-coins-gt-LONGEST c = record { value = rw (le-ltb _ _ c.if-tx-gt-LONGEST.false, lt-ltb _ _ c.if-coins-gt-LONGEST.true) c.put_too_long.ensures.value; d_after = rw (le-ltb _ _ c.if-tx-gt-LONGEST.false, lt-ltb _ _ c.if-coins-gt-LONGEST.true) c.put_too_long.ensures.d_after }

pub returns : goal.returns
unfolding link_line
returns c = record { value = rw (le-ltb _ _ c.if-tx-gt-LONGEST.false, le-ltb _ _ c.if-coins-gt-LONGEST.false, answer-line) c.put_answer.ensures.value; d_after = rw (le-ltb _ _ c.if-tx-gt-LONGEST.false, le-ltb _ _ c.if-coins-gt-LONGEST.false, answer-line) c.put_answer.ensures.d_after }
