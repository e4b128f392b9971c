use Rattle.std.proofs.Common.{◌≡◌, length, sym, ◌∙◌, arith}
use Rattle.words.specs.Words.{lanes}
use Rattle.words.proofs.Lanes.{length-lanes}
use Rattle.sha3.proofs.Sponge.{mixed-nil, mixed-lane, mixed-all}
use Rattle.sha3.proofs.mix.Goals as goal

pub loop-i-init : goal.loop-i-init
loop-i-init c = sym (mixed-nil c.args.s)

pub loop-i-preserved : goal.loop-i-preserved
loop-i-preserved c =
    let l = c.loop-i in
    rw l.invariant (mixed-lane c.args.s c.args.p.now {i = l.i} (omega arith) (omega arith) c.load_u64.ensures)

pub returns : goal.returns
returns c =
    let p = lanes 17 c.args.p.now in
    let all : c.loop-i.i ≡ length p = omega (arith, length-lanes 17 c.args.p.now) in
    c.loop-i.invariant ∙ mixed-all c.args.s p c.loop-i.i all
