use mathlib.Core.Path.{◌≡◌}
use Prim.Native.Nat.{◌-◌}
use lib.ListN.{length}
use lib.Seq.{sets}
use Rattle.words.specs.Words.{bytes}
use Rattle.words.proofs.store.fill_le.Given as goal

abbrev pub invariant-loop-byte : goal.invariant-loop-byte
invariant-loop-byte l = sets l.d l.byte-index (bytes (length l.initial.d - l.byte-index) l.rest) ≡ sets l.initial.d 0 (bytes (length l.initial.d) l.v)
