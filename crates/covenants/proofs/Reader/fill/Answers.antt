use native.Mathlib.Omega.{arith}
use Rattle.encoding.specs.Paper.{span_paper}
use Rattle.refusal.proofs.Outcomes.{told}
use Rattle.covenants.proofs.Moves.{item-read}
use Rattle.covenants.proofs.Directory.{more, all-kept, none_kept}
use Rattle.covenants.proofs.Reader.fill.Goals as goal

pub returns-then-short-count : goal.returns-then-short-count
returns-then-short-count c =
    let made = all-kept _ (c.short_entries-short.ensures.by_index _ c.loop-self.invariant) (omega arith) in
    record { result_value = made.0; starts_after = made.1.0; lens_after = made.1.1 }

pub loop-self-preserved : goal.loop-self-preserved
loop-self-preserved c =
    let e = told span_paper c.item.ensures c.in-Ok.is in
    let m = item-read _ _ _ (omega arith) _ e in
    more _ (c.short_entries-short.ensures.by_index _ c.loop-self.invariant) (omega arith) (omega (arith, c.short_entries-short.ensures.start_le_at, m.later, m.ends)) e

pub returns-in-Err : goal.returns-in-Err
returns-in-Err c =
    let made = none_kept _ (c.short_entries-short.ensures.by_index _ c.loop-self.invariant) (omega arith) (told span_paper c.item.ensures c.in-Err.is) c.clear-in-Err.ensures in
    record { result_value = made.0; starts_after = made.1.0; lens_after = made.1.1 }
