use mathlib.Core.Path.{ap, sym, ◌∙◌}
use Rattle.encoding.specs.Paper.{moved_paper}
use Rattle.refusal.proofs.Outcomes.{told}
use Rattle.covenants.specs.Paper.{covenant_paper}
use Rattle.covenants.proofs.Moves.{whole_long, whole-refused, whole-trailing, whole-ended}
use Rattle.covenants.proofs.Directory.{found, refused, tells-same, tells-refused}
use Rattle.covenants.proofs.Covenant.decode_into.Goals as goal

pub returns-then-most-s : goal.returns-then-most-s
returns-then-most-s c =
    let made = tells-refused (whole_long _ c.if-most-s.true) c.clear.ensures in
    record { result_value = rw (c.too_large.ensures.0, c.too_large.ensures.1) made.0; starts_after = made.1.0; lens_after = made.1.1 }

pub returns-in-Ok-finish : goal.returns-in-Ok-finish
returns-in-Ok-finish c =
    let o = found _ (told covenant_paper c.decode_from_into-read.ensures.result_value c.in-Ok.is) in
    let made = tells-same (o.1 ∙ sym (whole-ended _ c.if-most-s.false o.1 (told moved_paper c.finish.ensures c.in-Ok-finish.is))) (sym (ap covenant_paper c.in-Ok.is) ∙ c.decode_from_into-read.ensures.result_value, (c.decode_from_into-read.ensures.starts_after, c.decode_from_into-read.ensures.lens_after)) in
    record { result_value = made.0; starts_after = made.1.0; lens_after = made.1.1 }

pub returns-in-Err-finish : goal.returns-in-Err-finish
returns-in-Err-finish c =
    let o = found _ (told covenant_paper c.decode_from_into-read.ensures.result_value c.in-Ok.is) in
    let made = tells-refused (whole-trailing _ c.if-most-s.false o.1 (told moved_paper c.finish.ensures c.in-Err-finish.is)) c.clear-in-Err-finish.ensures in
    record { result_value = made.0; starts_after = made.1.0; lens_after = made.1.1 }

pub returns-in-Err : goal.returns-in-Err
returns-in-Err c =
    let o = refused _ (told covenant_paper c.decode_from_into-read.ensures.result_value c.in-Err.is) in
    let made = tells-same (o ∙ sym (whole-refused _ c.if-most-s.false o)) (sym (ap covenant_paper c.in-Err.is) ∙ c.decode_from_into-read.ensures.result_value, (c.decode_from_into-read.ensures.starts_after, c.decode_from_into-read.ensures.lens_after)) in
    record { result_value = made.0; starts_after = made.1.0; lens_after = made.1.1 }
