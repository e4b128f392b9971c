use Rattle.name_state_codec.proofs.Decoded.{decoded-read}
use Rattle.reports.proofs.name.put_record.Goals as goal

pub returns-in-Ok : goal.returns-in-Ok
returns-in-Ok c =
    let a = c.args in
    record { value = rw (← decoded-read a.key.0 a.value.now c.decode.result c.decode.ensures, c.in-Ok.is) c.put_state.ensures.value; d_after = rw (← decoded-read a.key.0 a.value.now c.decode.result c.decode.ensures, c.in-Ok.is) c.put_state.ensures.d_after }
