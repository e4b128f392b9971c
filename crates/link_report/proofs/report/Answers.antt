use Rattle.std.proofs.Common.{arith, ◌≤◌, length, sym}
use Rattle.std.proofs.lemmas.List.{length-take-le}
use Rattle.refusal.proofs.Outcomes.{told}
use Rattle.refusal.specs.Paper.{put_paper}
use Rattle.encoding.proofs.Compact.{written-within}
use Rattle.link_report.proofs.report.Goals as goal

pub slice_bounds-line-end : goal.slice_bounds-line-end
slice_bounds-line-end g c =
    let within = written-within _ _ _ (told put_paper c.link_line.ensures.result_value c.in-Ok.is) in
    omega (arith, within, c.link_line.auto.out)

pub slice_bounds-write_all-end : goal.slice_bounds-write_all-end
slice_bounds-write_all-end g c =
    let within = written-within _ _ _ (told put_paper c.link_line.ensures.result_value c.in-Ok.is) in
    let fits : c.in-Ok.m ≤ length c.link_line.new.out = omega (arith, within, c.link_line.auto.out) in
    sym (length-take-le c.in-Ok.m c.link_line.new.out fits)
