use native.Mathlib.Omega.{arith}
use mathlib.Core.Path.{sym}
use lib.ListN.{replicate}
use lib.Seq.{length-take-le}
use Rattle.texts.proofs.Puts.{puts-stands}
use Rattle.reports.specs.Link.{link_line}
use Rattle.reports.proofs.Theorems.{link-line-fits}
use Rattle.reports.proofs.link.link_line.Goals as goal

pub slice_bounds-line-end : goal.slice_bounds-line-end
slice_bounds-line-end c =
    let stood = puts-stands (replicate 89 0) (link_line c.args.tx.now c.args.coins.now) (link-line-fits c.args.tx.now c.args.coins.now) (c.put_line-n.ensures.value, c.put_line-n.ensures.d_after) in
    omega (arith, stood.0)

pub slice_bounds-put_bytes-end : goal.slice_bounds-put_bytes-end
slice_bounds-put_bytes-end c =
    let stood = puts-stands (replicate 89 0) (link_line c.args.tx.now c.args.coins.now) (link-line-fits c.args.tx.now c.args.coins.now) (c.put_line-n.ensures.value, c.put_line-n.ensures.d_after) in
    sym (length-take-le _ _ (omega (arith, stood.0)))

pub returns : goal.returns
returns c =
    let stood = puts-stands (replicate 89 0) (link_line c.args.tx.now c.args.coins.now) (link-line-fits c.args.tx.now c.args.coins.now) (c.put_line-n.ensures.value, c.put_line-n.ensures.d_after) in
    record { result_value = rw (← stood.1) c.put_bytes.ensures.0; out_after = rw (← stood.1) c.put_bytes.ensures.1 }
