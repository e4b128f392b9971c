use Rattle.links.specs.Rules.{linked, unpaired}
use Rattle.links.specs.Workers.{outputs_in}
use Rattle.links.proofs.Unpaired.{Trailing}
use Rattle.links.proofs.walk.trailing.Given as goal

abbrev pub invariant-loop-k : goal.invariant-loop-k
invariant-loop-k l = Trailing l.tx l.n l.left (linked l.n l.linked_outputs l.name_inputs) l.c.position l.k (unpaired l.n (linked l.n l.linked_outputs l.name_inputs) (outputs_in l.tx l.left l.at))
