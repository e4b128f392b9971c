use native.Mathlib.Omega.{arith}
use mathlib.Core.Path.{sym}
use lib.ListN.{replicate}
use lib.Seq.{length-take-le}
use Rattle.texts.proofs.Puts.{puts-stands}
use Rattle.reports.specs.Name.{name_line}
use Rattle.reports.proofs.Theorems.{name-line-fits}
use Rattle.reports.proofs.name.name_line.Goals as goal

pub slice_bounds-line-end : goal.slice_bounds-line-end
slice_bounds-line-end c =
    let stood = puts-stands (replicate 64 0) (name_line c.args.file.now) (name-line-fits c.args.file.now) (c.put_line-n.ensures.value, c.put_line-n.ensures.d_after) in
    omega (arith, stood.0)

pub slice_bounds-put_bytes-end : goal.slice_bounds-put_bytes-end
slice_bounds-put_bytes-end c =
    let stood = puts-stands (replicate 64 0) (name_line c.args.file.now) (name-line-fits c.args.file.now) (c.put_line-n.ensures.value, c.put_line-n.ensures.d_after) in
    sym (length-take-le _ _ (omega (arith, stood.0)))

pub returns : goal.returns
returns c =
    let stood = puts-stands (replicate 64 0) (name_line c.args.file.now) (name-line-fits c.args.file.now) (c.put_line-n.ensures.value, c.put_line-n.ensures.d_after) in
    record { result_value = rw (← stood.1) c.put_bytes.ensures.0; out_after = rw (← stood.1) c.put_bytes.ensures.1 }
