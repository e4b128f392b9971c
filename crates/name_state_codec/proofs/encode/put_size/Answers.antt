use native.Mathlib.Omega.{arith}
use mathlib.Core.Path.{◌≡◌, refl, ◌∙◌}
use lib.ListN.{length}
use Rattle.std.proofs.Common.{rules}
use Rattle.words.proofs.Over.{laid-over}
use Rattle.encoding.specs.Wire.{compact}
use Rattle.name_state_codec.proofs.Fields.{put_all}
use Rattle.name_state_codec.proofs.encode.put_size.Goals as goal

pub overflow_add-result : goal.overflow_add-result
overflow_add-result c =
    let n : c.unwrap_or.result ≡ length (compact c.args.v) = search (rules, put_all _ _ _ c.put_compact_size.ensures.0 c.requires) in
    omega (arith, n, c.requires)

pub returns : goal.returns
returns c =
    let n : c.unwrap_or.result ≡ length (compact c.args.v) = search (rules, put_all _ _ _ c.put_compact_size.ensures.0 c.requires) in
    (omega (arith, n), c.put_compact_size.ensures.1 ∙ laid-over c.args.at _ _ _ refl c.requires)
