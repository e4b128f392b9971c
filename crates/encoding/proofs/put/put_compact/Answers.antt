use native.Mathlib.Omega.{arith}
use mathlib.Core.Path.{◌∙◌}
use Rattle.words.proofs.Le.{length-bytes}
use Rattle.words.proofs.Over.{laid-over}
use Rattle.encoding.proofs.Compact.{form1, form3, form5, form9}
use Rattle.encoding.proofs.put.put_compact.Goals as goal

pub returns-then-value-lt253 : goal.returns-then-value-lt253
returns-then-value-lt253 c = let f = form1 c.args.value (omega arith) in rw f.0 (c.put_le.ensures.1 ∙ laid-over _ _ _ 1 (length-bytes 1 c.args.value) (omega (arith, f.1, c.requires)))

pub put_tagged-requires : goal.put_tagged-requires
put_tagged-requires c = omega (arith, (form3 c.args.value (omega arith) (omega arith)).1)

pub returns-then-value-lt65536 : goal.returns-then-value-lt65536
returns-then-value-lt65536 c = rw (form3 c.args.value (omega arith) (omega arith)).0 c.put_tagged.ensures

pub put_tagged-requires-then-value-lt4294967296 : goal.put_tagged-requires-then-value-lt4294967296
put_tagged-requires-then-value-lt4294967296 c = omega (arith, (form5 c.args.value (omega arith) (omega arith)).1)

pub returns-then-value-lt4294967296 : goal.returns-then-value-lt4294967296
returns-then-value-lt4294967296 c = rw (form5 c.args.value (omega arith) (omega arith)).0 c.put_tagged-then-value-lt4294967296.ensures

pub put_tagged-requires-else-value-lt4294967296 : goal.put_tagged-requires-else-value-lt4294967296
put_tagged-requires-else-value-lt4294967296 c = omega (arith, (form9 c.args.value (omega arith)).1)

pub returns-else-value-lt4294967296 : goal.returns-else-value-lt4294967296
returns-else-value-lt4294967296 c = rw (form9 c.args.value (omega arith)).0 c.put_tagged-else-value-lt4294967296.ensures
