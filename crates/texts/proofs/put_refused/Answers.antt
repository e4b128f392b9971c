use native.Mathlib.Omega.{arith}
use mathlib.Core.Path.{refl, ap, ◌∙◌}
use mathlib.Core.List.{List}
use Prim.Native.Nat.{ℕ}
use lib.ListN.{length, replicate}
use lib.Seq.{length-take-le}
use Rattle.words.specs.Buffers.{laid}
use Rattle.texts.specs.Text.{refused_line, end_of}
use Rattle.texts.proofs.Puts.{refused-stands}
use Rattle.texts.proofs.put_refused.Goals as goal

pub slice_bounds-line-end : goal.slice_bounds-line-end
slice_bounds-line-end c =
    let stood = refused-stands (replicate 29 0) _ refl (c.put_field-next.ensures.value, c.put_field-next.ensures.d_after) (c.put_text-end.ensures.value, c.put_text-end.ensures.d_after) in
    omega (arith, stood.0, c.put_text-end.auto.d, c.put_field-next.auto.d)

pub returns : goal.returns
returns c =
    let stood = refused-stands (replicate 29 0) _ refl (c.put_field-next.ensures.value, c.put_field-next.ensures.d_after) (c.put_text-end.ensures.value, c.put_text-end.ensures.d_after) in
    let line = stood.1 ∙ ap refused_line c.from.ensures in
    record {
      value = c.put_text.ensures.value ∙ ap (λ (bs : List ℕ). end_of 0 bs (length c.args.d.now)) line;
      d_after = c.put_text.ensures.d_after ∙ ap (λ (bs : List ℕ). laid 0 bs c.args.d.now) line;
    }

pub slice_bounds-put_text-end-3 : goal.slice_bounds-put_text-end-3
slice_bounds-put_text-end-3 c =
    let stood = refused-stands (replicate 29 0) _ refl (c.put_field-next.ensures.value, c.put_field-next.ensures.d_after) (c.put_text-end.ensures.value, c.put_text-end.ensures.d_after) in
    omega (arith, length-take-le c.put_text-end.result c.put_text-end.new.d (omega (arith, stood.0, c.put_text-end.auto.d, c.put_field-next.auto.d)))
