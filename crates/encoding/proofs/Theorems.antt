-- The theorems of specs/Theorems.antt.
use mathlib.Core.Path.{refl, ap, sym, ◌∙◌}
use Prim.Native.Nat.{ℕ, ◌+◌, ◌≤◌}
use native.Mathlib.Omega.{arith}
use mathlib.Core.List.{List, [], ◌++◌, append-nil}
use lib.ListN.{length, length-append}
use Rattle.words.specs.Words.{bytes}
use Rattle.words.proofs.Le.{length-bytes}
use Rattle.encoding.specs.Wire.{compact, compact_size, varbytes}
use Rattle.encoding.specs.Theorems.{FixedReadsBack, BytesReadBack, CompactReadsBack, VarbytesReadBack, CompactBegins}
use Rattle.encoding.proofs.Compact.{length-compact, compact-size-most}
use Rattle.encoding.proofs.Back.{Stands, stands_here, stands-next, stands-both, fixed_back, bytes_back, compact-back, varbytes-back}

-- what stands between two others lies within them
within : (before bs rest : List ℕ) → length before + length bs ≤ length (before ++ (bs ++ rest))
within before bs rest = omega (arith, length-append before (bs ++ rest), length-append bs rest)

pub fixed-reads-back : FixedReadsBack
fixed-reads-back n v before rest small big =
    let s : List ℕ = before ++ (bytes n v ++ rest) in
    let h = stands_here before (bytes n v) rest in
    let room = within before (bytes n v) rest in
    let long = length-bytes n v in
    (fixed_back s n v (length before) rest small (omega arith) h, stands-next s (length before) (bytes n v) rest n long h)

pub bytes-read-back : BytesReadBack
bytes-read-back bs before rest big =
    let s : List ℕ = before ++ (bs ++ rest) in
    let h = stands_here before bs rest in
    let room = within before bs rest in
    (bytes_back s (length bs) (length before) bs rest refl (omega arith) h, stands-next s (length before) bs rest (length bs) refl h)

pub compact-reads-back : CompactReadsBack
compact-reads-back v before rest small big =
    let s : List ℕ = before ++ (compact v ++ rest) in
    let h = stands_here before (compact v) rest in
    (compact-back s v (length before) rest small (omega (arith, h.0)) h, stands-next s (length before) (compact v) rest (compact_size v) (length-compact v) h)

pub varbytes-read-back : VarbytesReadBack
unfolding varbytes
varbytes-read-back maximum bs before rest few big =
    let s : List ℕ = before ++ (varbytes bs ++ rest) in
    let h = stands_here before (varbytes bs) rest in
    let n = compact_size (length bs) in
    let two = stands-both s (length before) (compact (length bs)) bs rest n (length-compact (length bs)) h in
    (length before + n, varbytes-back s maximum (length before) bs rest few big h, two.1.1)

pub compact-begins : CompactBegins
compact-begins v w rest hv hw e =
    let few = compact-size-most v in
    let few' = compact-size-most w in
    let long = length-compact w in
    let same-long = ap length e ∙ long in
    let st : Stands (compact w) 0 (compact v) rest = (omega arith, sym e) in
    let sw : Stands (compact w) 0 (compact w) [] = (omega arith, sym (append-nil (compact w))) in
    let a = compact-back (compact w) v 0 rest hv (omega arith) st in
    let b = compact-back (compact w) w 0 [] hw (omega arith) sw in
    let c = sym a ∙ b in
    cc
