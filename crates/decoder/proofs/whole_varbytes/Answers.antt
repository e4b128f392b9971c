use mathlib.Core.Path.{ap}
use Rattle.refusal.proofs.Outcomes.{raised}
use Rattle.encoding.specs.Wire.{compact_most, slice_at, finish_at}
use Rattle.encoding.specs.Paper.{read_paper, span_paper}
use Rattle.decoder.specs.Held.{whole_varbytes}
use Rattle.decoder.proofs.Step.{Over, here, step}
use Rattle.decoder.proofs.whole_varbytes.Goals as goal

pub returns-in_err-length : goal.returns-in_err-length
unfolding whole_varbytes
returns-in_err-length c =
    let begun : Over c.args.input.now 0 c.new-decoder.result = record { input = ap (λ b. b.now) c.new-decoder.ensures.0; position = c.new-decoder.ensures.1 } in
    rw (raised c.from_residual.ensures, here (compact_most c.args.maximum) begun c.read_compact_usize.ensures.0, c.in_err-length.was)

pub returns-in_err-part : goal.returns-in_err-part
unfolding whole_varbytes
returns-in_err-part c =
    let begun : Over c.args.input.now 0 c.new-decoder.result = record { input = ap (λ b. b.now) c.new-decoder.ensures.0; position = c.new-decoder.ensures.1 } in
    let sized : Over c.args.input.now c.in_ok-length.field-0-1.position c.read_compact_usize.new.self = step begun c.read_compact_usize.ensures.1 (ap read_paper c.in_ok-length.was) in
    rw (raised c.from_residual-in_err-part.ensures, here (compact_most c.args.maximum) begun c.read_compact_usize.ensures.0, c.in_ok-length.was, here (slice_at c.in_ok-length.length) sized c.read_slice.ensures.0, c.in_err-part.was)

pub returns-in_err-end : goal.returns-in_err-end
unfolding whole_varbytes
returns-in_err-end c =
    let begun : Over c.args.input.now 0 c.new-decoder.result = record { input = ap (λ b. b.now) c.new-decoder.ensures.0; position = c.new-decoder.ensures.1 } in
    let sized : Over c.args.input.now c.in_ok-length.field-0-1.position c.read_compact_usize.new.self = step begun c.read_compact_usize.ensures.1 (ap read_paper c.in_ok-length.was) in
    let parted : Over c.args.input.now c.in_ok-part.field-0-1.position c.read_slice.new.self = step sized c.read_slice.ensures.1 (ap span_paper c.in_ok-part.was) in
    rw
    (raised c.from_residual-in_err-end.ensures, here (compact_most c.args.maximum) begun c.read_compact_usize.ensures.0, c.in_ok-length.was, here (slice_at c.in_ok-length.length) sized c.read_slice.ensures.0, c.in_ok-part.was, here finish_at parted c.finish.ensures, c.in_err-end.was)

pub returns : goal.returns
unfolding whole_varbytes
returns c =
    let begun : Over c.args.input.now 0 c.new-decoder.result = record { input = ap (λ b. b.now) c.new-decoder.ensures.0; position = c.new-decoder.ensures.1 } in
    let sized : Over c.args.input.now c.in_ok-length.field-0-1.position c.read_compact_usize.new.self = step begun c.read_compact_usize.ensures.1 (ap read_paper c.in_ok-length.was) in
    let parted : Over c.args.input.now c.in_ok-part.field-0-1.position c.read_slice.new.self = step sized c.read_slice.ensures.1 (ap span_paper c.in_ok-part.was) in
    rw
    (here (compact_most c.args.maximum) begun c.read_compact_usize.ensures.0, c.in_ok-length.was, here (slice_at c.in_ok-length.length) sized c.read_slice.ensures.0, c.in_ok-part.was, here finish_at parted c.finish.ensures, c.in_ok-end.was)
