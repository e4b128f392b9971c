use Rattle.reports.proofs.Judgement.{counts-line}
use Rattle.reports.proofs.link.put_too_long.Goals as goal

pub returns-in-Ok : goal.returns-in-Ok
returns-in-Ok c = record { value = rw (counts-line, ← c.judge_transaction.ensures, c.in-Ok.is) c.put_refused.ensures.value; d_after = rw (counts-line, ← c.judge_transaction.ensures, c.in-Ok.is) c.put_refused.ensures.d_after }

pub returns-in-Err : goal.returns-in-Err
returns-in-Err c = record { value = rw (counts-line, ← c.judge_transaction.ensures, c.in-Err.is) c.put_stopped.ensures.value; d_after = rw (counts-line, ← c.judge_transaction.ensures, c.in-Err.is) c.put_stopped.ensures.d_after }
