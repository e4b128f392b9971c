use Rattle.replay.proofs.Laying.{four-of, flag}
use Rattle.replay.proofs.states.flags.Goals as goal

pub returns : goal.returns
returns c =
    let s = c.args.state.now in
    rw (← flag s.registered, ← flag s.expired, ← flag s.weak, ← c.from.ensures, ← c.from-2.ensures, ← c.from-3.ensures) (four-of _ _ _ _ c.words_bytes.ensures)
