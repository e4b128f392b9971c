use mathlib.Core.Path.{sym}
use native.Mathlib.Omega.{arith}
use Rattle.refusal.proofs.Outcomes.{raised}
use Rattle.refusal.proofs.Many.{more, stopped, ended}
use Rattle.sheets.proofs.pass_many.Goals as goal

pub returns-in_err-c : goal.returns-in_err-c
returns-in_err-c g c = λ ends h. rw (raised c.from_residual.ensures) (sym (stopped ends (c.loop.invariant ends h) c.loop-test.true (sym (h _ _ c.in_err-c.ensures))))

pub loop-preserved : goal.loop-preserved
loop-preserved g c = λ ends h. more ends (c.loop.invariant ends h) c.loop-test.true (sym (h _ _ c.in_ok-c.ensures))

pub returns : goal.returns
returns g c = λ ends h. sym (ended ends (c.loop.invariant ends h) (omega arith))
