use Prim.Native.Nat.{◌+◌, ◌-◌, ◌*◌}
use Rattle.links.specs.Rules.{rule, links_from}
use Rattle.links.specs.Workers.{inputs_in, outputs_in, coins_in, turn_at, Turning}
use Rattle.checks.proofs.Comparing as comparing
use Rattle.links.proofs.Walking as walking
use Rattle.links.proofs.walk.walk.Given as goal

abbrev pub invariant-loop-j : goal.invariant-loop-j
invariant-loop-j l = comparing.Compared l.coins l.tx l.pair.spent l.pair.created l.pair.width l.j

abbrev pub invariant-loop-k : goal.invariant-loop-k
invariant-loop-k l = Turning l.tx l.coins l.i l.turn l.k (turn_at l.tx l.coins l.i l.coin_position l.output_position l.left)

abbrev pub invariant-loop-i : goal.invariant-loop-i
invariant-loop-i l = walking.Walking l.tx l.coins l.n l.outputs l.i l.linked_outputs l.name_inputs l.input_position l.coin_position l.output_position (links_from rule 0 0 0 (inputs_in l.tx l.n) (coins_in l.coins l.n) (outputs_in l.tx l.outputs (4 + l.n * 36)))
