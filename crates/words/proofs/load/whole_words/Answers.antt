use native.Mathlib.Omega.{arith}
use mathlib.Core.Path.{◌∙◌}
use mathlib.Core.List.{[]}
use lib.ListN.{get_or}
use Rattle.words.proofs.Lanes.{words-more}
use Rattle.words.proofs.Le.{from-le}
use Rattle.words.proofs.load.whole_words.Goals as goal

pub loop-i-preserved : goal.loop-i-preserved
loop-i-preserved c =
    let l = c.loop-i in
    let ws = c.args.words.now in
    let x = c.from_le_bytes.ensures ∙ from-le (get_or ws l.i []) (c.told-words l.i (omega arith)) in
    words-more l.out ws l.i c.from_le_bytes.result (omega arith) (omega arith) x l.invariant
