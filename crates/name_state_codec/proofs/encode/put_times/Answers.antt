use native.Mathlib.Omega.{arith}
use mathlib.Core.List.{◌++◌}
use lib.ListN.{length-append}
use Rattle.words.proofs.Laid.{Laid, both}
use Rattle.name_state_codec.specs.Workers.{own_times, time_bytes, amount_bytes}
use Rattle.name_state_codec.proofs.Fields.{times_long}
use Rattle.name_state_codec.proofs.encode.put_times.Goals as goal

pub returns : goal.returns
unfolding own_times
returns c =
    let a = c.args in
    let l = times_long a.times in
    let A : Laid a.d.now a.at (time_bytes a.times.transfer.0) c.put_time-one.new.d c.put_time-one.result = record { ends = c.put_time-one.ensures.0; holds = c.put_time-one.ensures.1 } in
    let B : Laid c.put_time-one.new.d c.put_time-one.result (time_bytes a.times.revoked.0) c.put_time-two.new.d c.put_time-two.result = record { ends = c.put_time-two.ensures.0; holds = c.put_time-two.ensures.1 } in
    let C : Laid c.put_time-two.new.d c.put_time-two.result (time_bytes a.times.claimed.0) c.put_time-three.new.d c.put_time-three.result = record { ends = c.put_time-three.ensures.0; holds = c.put_time-three.ensures.1 } in
    let D : Laid c.put_time-three.new.d c.put_time-three.result (amount_bytes a.times.renewals) c.put_amount.new.d c.put_amount.result = record { ends = rw c.from.ensures at c.put_amount.ensures.0; holds = rw c.from.ensures at c.put_amount.ensures.1 } in
    let l₁ = length-append (time_bytes a.times.transfer.0) (time_bytes a.times.revoked.0) in
    let l₂ = length-append (time_bytes a.times.transfer.0 ++ time_bytes a.times.revoked.0) (time_bytes a.times.claimed.0) in
    let r = both (omega (arith, c.requires)) (both (omega (arith, l, l₁, l₂, c.requires)) (both (omega (arith, l, l₁, c.requires)) A B) C) D in
    (r.ends, r.holds)
