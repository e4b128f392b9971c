use mathlib.Core.Path.{ap}
use Rattle.refusal.specs.declared.Carried.{Carried}
use Rattle.reports.proofs.link.put_stopped.Goals as goal

pub returns : goal.returns
returns c = record { value = rw (← c.number.ensures, ← ap (λ (x : Carried). x.first) c.carried_by.ensures) c.put_numbered.ensures.value; d_after = rw (← c.number.ensures, ← ap (λ (x : Carried). x.first) c.carried_by.ensures) c.put_numbered.ensures.d_after }
