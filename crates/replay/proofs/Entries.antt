-- Entries and their numbers.
use mathlib.Core.Path.{◌≡◌, refl}
use mathlib.Core.Bool.{Bool, true, false}
use lib.Dec.{ltb, eqb}
use lib.ListN.{length, take, drop}
use mathlib.Core.List.{List}
use native.Mathlib.Omega.{arith}
use Prim.Native.Nat.{ℕ, ◌-◌, ◌≤◌, ◌<◌}
use borrow.Author.Tests.{ne_eqb}
use Rattle.std.specs.Prelude.{Option, None, Result, Ok, Err}
use Rattle.std.specs.Result.{result_ok}
use Rattle.words.specs.Words.{le}
use Rattle.words.specs.Buffers.{pick}
use Rattle.replay.specs.Answers.{Numbered, Parts, takes, answered_at}
use Rattle.replay.specs.declared.records.Entry.{Entry}
use Rattle.replay.specs.declared.records.UnknownEntry.{UnknownEntry}

-- no record is of an entry that there is not
pub unknown : (s : List ℕ) (n start end : ℕ) → (0 < n → 6 < n) → answered_at s n start end ≡ None
unfolding answered_at takes
unknown s n start end h =
    simp (other 1 (omega arith) (omega arith), other 2 (omega arith) (omega arith), other 3 (omega arith) (omega arith), other 4 (omega arith) (omega arith), other 5 (omega arith) (omega arith), other 6 (omega arith) (omega arith))
    (either (ltb (length s - end - 4) (le (take 4 (drop end s)))))
  where
    other : (k : ℕ) → 0 < k → k ≤ 6 → eqb n k ≡ false
    other k p q = ne_eqb n k (λ e. let past : 6 < n = h (omega arith) in omega arith)

    either : (b : Bool) → pick {X = Option Parts} b None None ≡ None
    either true = refl
    either false = refl

-- a number that is none's
pub unnumbered : (n : ℕ) (r : Result Entry UnknownEntry) → result_ok r ≡ None → Numbered n r → 0 < n → 6 < n
unnumbered n (Ok e) p h = cc
unnumbered n (Err e) p h = h
