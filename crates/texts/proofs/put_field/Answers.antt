use native.Mathlib.Omega.{arith}
use mathlib.Core.Path.{ap, ◌∙◌}
use mathlib.Core.List.{List, ◌++◌}
use Prim.Native.Nat.{ℕ}
use lib.ListN.{length}
use Rattle.words.specs.Buffers.{laid}
use Rattle.std.specs.Fmt.{decimal as printed}
use Rattle.texts.specs.Text.{end_of}
use Rattle.texts.proofs.Decimal.{decimal-printed}
use Rattle.texts.proofs.put_field.Goals as goal

pub returns : goal.returns
returns c =
    let a = c.args in
    let text = c.as_bytes.ensures.value ∙ c.format.ensures.text ∙ ap (λ (k : ℕ). printed k) (omega arith) ∙ decimal-printed a.n c.ranges.n.fits in
    record {
      value = c.put_both.ensures.value ∙ ap (λ (bs : List ℕ). end_of a.at (a.label.now ++ bs) (length a.d.now)) text;
      d_after = c.put_both.ensures.d_after ∙ ap (λ (bs : List ℕ). laid a.at (a.label.now ++ bs) a.d.now) text;
    }
