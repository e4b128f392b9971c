use borrow.Author.Rules.{rules}
use native.Mathlib.Omega.{arith}
use mathlib.Core.Path.{◌≡◌, ◌∙◌}
use lib.ListN.{length}
use Rattle.name_state.specs.Paper.{state_of}
use Rattle.name_state_codec.proofs.Whole.{wrote-all, text-laid, numbers-laid}
use Rattle.name_state_codec.proofs.encode.put_record.Goals as goal

pub returns : goal.returns
returns c =
    let a = c.args.state in
    let h : length a.name ≡ 63 = search (rules, c.well_formed.0) in
    let k : length a.resource_data ≡ 512 = search (rules, c.well_formed.0) in
    wrote-all (state_of a) c.requires.2 (c.put_numbers.auto.d ∙ c.put_text-two.auto.d ∙ c.put_text-one.auto.d) c.put_text-one.auto.d
    (text-laid a.name_length 1 a.name c.args.d.now c.put_text-one.new.d (omega (arith, h, c.requires.0)) c.put_text-one.ensures.0 c.put_text-one.ensures.1)
    (text-laid a.resource_length 2 a.resource_data c.put_text-one.new.d c.put_text-two.new.d (omega (arith, k, c.requires.1)) c.put_text-two.ensures.0 c.put_text-two.ensures.1)
    (numbers-laid (state_of a) c.put_text-two.new.d c.put_numbers.new.d c.put_text-two.result c.bitmap.ensures c.put_numbers.ensures)
    (record { ends = (rw c.amounts.ensures at c.put_held-three.ensures.0); holds = (rw c.amounts.ensures at c.put_held-three.ensures.1) })
    (record { ends = (rw c.times.ensures at c.put_times.ensures.0); holds = (rw c.times.ensures at c.put_times.ensures.1) })
