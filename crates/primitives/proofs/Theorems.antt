-- The theorems of specs/Theorems.antt.
use mathlib.Core.Path.{◌≡◌, refl, ap, ap₂}
use Prim.Native.Nat.{ℕ, ◌+◌}
use native.Mathlib.Omega.{arith}
use mathlib.Core.List.{List, ◌++◌}
use lib.ListN.{length, length-append}
use lib.Dec.{eqb}
use borrow.Author.Tests.{eqb-true, eq-eqb}
use Rattle.words.specs.Words.{bytes}
use Rattle.words.specs.Sameness.{same}
use Rattle.words.proofs.Le.{length-bytes}
use Rattle.words.proofs.Sameness.{same_true, same_refl, and-true}
use Rattle.refusal.specs.Outcome.{ok}
use Rattle.encoding.proofs.Back.{stands_here, stands-both, stands-next, stands-long, bytes_back, fixed_back}
use Rattle.primitives.specs.Outpoints.{outpoint, same_outpoint, outpoint_bytes, outpoint_at}
use Rattle.primitives.specs.Theorems.{OutpointReadsBack, SameIsEqual}

pub outpoint-reads-back : OutpointReadsBack
unfolding outpoint_bytes outpoint_at
outpoint-reads-back p before rest sized big =
    let hash = p.transaction_hash.0 in
    let index = bytes 4 p.index in
    let s : List ℕ = before ++ ((hash ++ index) ++ rest) in
    let at : ℕ = length before in
    let here = stands_here before (hash ++ index) rest in
    let room = stands-long s at (hash ++ index) rest here in
    let sum = length-append hash index in
    let four = length-bytes 4 p.index in
    let wide = sized.hash in
    let two = stands-both s at hash index rest 32 sized.hash here in
    let a = bytes_back s 32 at hash (index ++ rest) sized.hash (omega arith) two.0 in
    let b = fixed_back s 4 p.index (at + 32) rest sized.index (omega arith) two.1 in
    let end : at + 32 + 4 ≡ at + 36 = omega arith in
    (rw (a, b) (ap (ok p) end), stands-next s at (hash ++ index) rest 36 (omega arith) here)

pub same-is-equal : SameIsEqual
unfolding same_outpoint
same-is-equal p q = (
  (λ e.
      let x = and-true (eqb p.index q.index) (same p.transaction_hash.0 q.transaction_hash.0) e in
      ap₂ outpoint (same_true p.transaction_hash.0 q.transaction_hash.0 x.1) (eqb-true p.index q.index x.0)),
  (λ e. rw e (rw (eq-eqb q.index q.index refl) (same_refl q.transaction_hash.0))),
)
