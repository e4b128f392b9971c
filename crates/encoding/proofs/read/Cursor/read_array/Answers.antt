use native.Mathlib.Omega.{arith}
use Rattle.refusal.proofs.Outcomes.{told, raised}
use mathlib.Core.Path.{◌≡◌, ap, ◌∙◌}
use Prim.Native.Nat.{ℕ, ◌+◌, ◌-◌}
use mathlib.Core.List.{List}
use Rattle.refusal.specs.Outcome.{ok}
use Rattle.encoding.specs.Wire.{bytes_at}
use Rattle.encoding.specs.Paper.{span_paper}
use Rattle.encoding.proofs.Slice as slice
use Rattle.encoding.proofs.read.Cursor.read_array.Goals as goal

pub returns-in_err-part : goal.returns-in_err-part
unfolding bytes_at
returns-in_err-part g c = rw (raised c.from_residual.ensures, ← c.read_slice.ensures, c.in_err-part.was)

pub overflow_add-part : goal.overflow_add-part
overflow_add-part g c =
    let p = slice.read _ _ _ (omega arith) (told span_paper c.read_slice.ensures c.in_ok-part.was) in
    omega (arith, p.start, p.size, p.fits)

pub slice_bounds-copy_from_slice-end-2 : goal.slice_bounds-copy_from_slice-end-2
slice_bounds-copy_from_slice-end-2 g c =
    let p = slice.read _ _ _ (omega arith) (told span_paper c.read_slice.ensures c.in_ok-part.was) in
    omega (arith, p.start, p.size, p.fits)

pub returns : goal.returns
unfolding bytes_at
returns g c =
    let p = slice.read _ _ _ (omega arith) (told span_paper c.read_slice.ensures c.in_ok-part.was) in
    let k : c.in_ok-part.part.start + g.row.N - c.in_ok-part.part.start ≡ g.row.N = omega arith in
    rw (← c.read_slice.ensures, c.in_ok-part.was) (ap (λ (l : List ℕ). ok l c.in_ok-part.next.position) (c.copy_from_slice.ensures.after ∙ rw k))
