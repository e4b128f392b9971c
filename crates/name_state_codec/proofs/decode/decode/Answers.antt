use native.Mathlib.Omega.{arith}
use Rattle.refusal.proofs.Outcomes.{told, raised}
use Rattle.words.proofs.Le.{part-long}
use Rattle.encoding.specs.Paper.{read_as}
use Rattle.name_state_codec.specs.Read.{gathered, held_at, optional_at, fields_at}
use Rattle.name_state_codec.specs.Workers.{texts_said}
use Rattle.name_state_codec.proofs.Inside.{texts-inside}
use Rattle.name_state_codec.proofs.Canonical.{read-bits}
use Rattle.name_state_codec.proofs.Stored.{judged-told}
use Rattle.name_state_codec.proofs.decode.decode.Goals as goal

pub build-state-requires : goal.build-state-requires
build-state-requires c = texts-inside c.args.s.now 0 (omega arith) (told (read_as texts_said) c.read_texts.ensures c.in_ok-texts.was)

pub returns-in_err-end : goal.returns-in_err-end
unfolding fields_at optional_at held_at gathered
returns-in_err-end c =
    let s = c.args.s.now in
    let t = c.in_ok-texts.texts in
    let few = c.if-s-gt-MAX_SIZE.false in
    let i = texts-inside s 0 (omega (arith, few)) (told (read_as texts_said) c.read_texts.ensures c.in_ok-texts.was) in
    rw (
      raised c.from_residual-in_err-end.ensures,
      read-bits c.args.key.0 s (λ k. (c.type_inv.s k).fits) few,
      ← c.read_texts.ensures,
      c.in_ok-texts.was,
      ← c.read_numbers.ensures,
      c.in_ok-numbers.was,
      ← c.read_owner.ensures,
      c.in_ok-owner.was,
      ← c.read_amounts.ensures,
      c.in_ok-amounts.was,
      ← c.read_times.ensures,
      c.in_ok-times.was,
      judged-told s _ _ _ c.judge.result c.build-state.ensures (omega (arith, i, part-long s t.name.start t.name.len i.2)) (omega (arith, i, part-long s t.resource.start t.resource.len i.3)) c.judge.ensures,
      c.in_err-end.was,
    )

pub returns : goal.returns
unfolding fields_at optional_at held_at gathered
returns c =
    let s = c.args.s.now in
    let t = c.in_ok-texts.texts in
    let few = c.if-s-gt-MAX_SIZE.false in
    let i = texts-inside s 0 (omega (arith, few)) (told (read_as texts_said) c.read_texts.ensures c.in_ok-texts.was) in
    rw (
      read-bits c.args.key.0 s (λ k. (c.type_inv.s k).fits) few,
      ← c.read_texts.ensures,
      c.in_ok-texts.was,
      ← c.read_numbers.ensures,
      c.in_ok-numbers.was,
      ← c.read_owner.ensures,
      c.in_ok-owner.was,
      ← c.read_amounts.ensures,
      c.in_ok-amounts.was,
      ← c.read_times.ensures,
      c.in_ok-times.was,
      judged-told s _ _ _ c.judge.result c.build-state.ensures (omega (arith, i, part-long s t.name.start t.name.len i.2)) (omega (arith, i, part-long s t.resource.start t.resource.len i.3)) c.judge.ensures,
      c.in_ok-end.was,
    )
