-- A state that fits takes at most 668 bytes.
use mathlib.Core.Path.{◌≡◌}
use Prim.Native.Nat.{ℕ, ◌≤◌}
use native.Mathlib.Omega.{arith}
use mathlib.Core.List.{List}
use mathlib.Core.Bool.{Bool, true, false, not}
use lib.ListN.{length, length-append}
use lib.Dec.{eqb}
use Rattle.words.specs.Words.{bytes}
use Rattle.words.proofs.Le.{length-bytes}
use Rattle.encoding.specs.Wire.{compact}
use Rattle.encoding.proofs.Compact.{length-compact, compact-size-most}
use Rattle.primitives.specs.Outpoints.{is_null}
use Rattle.primitives.specs.declared.Outpoint.{Outpoint}
use Rattle.name_state.specs.State.{State}
use Rattle.name_state.specs.Paper.{amounts_of, times_of}
use Rattle.name_state_codec.specs.Written.{given, owner_record, state_bytes}
use Rattle.name_state_codec.specs.Workers.{owner_bytes, amount_bytes, time_bytes}
use Rattle.name_state_codec.proofs.Fields.{held-long, times_long}
use Rattle.name_state_codec.proofs.Back.{Fits}
use Rattle.name_state_codec.proofs.Whole.{record-long}

given-most : (b : Bool) (bs : List ℕ) {n : ℕ} → length bs ≤ n → length (given b bs) ≤ n
given-most true bs h = h
given-most false bs h = omega arith

amount-most : (v : ℕ) → length (amount_bytes v) ≤ 9
unfolding amount_bytes
amount-most v = given-most (not (eqb v 0)) (compact v) (omega (arith, length-compact v, (compact-size-most v).1))

time-most : (v : ℕ) → length (time_bytes v) ≤ 4
unfolding time_bytes
time-most v = given-most (not (eqb v 0)) (bytes 4 v) (omega (arith, length-bytes 4 v))

owner-most : (o : Outpoint) → length o.transaction_hash.0 ≡ 32 → length (owner_bytes o) ≤ 41
unfolding owner_bytes
owner-most o h =
    given-most (not (is_null o)) (owner_record o) (omega (arith, h, length-append o.transaction_hash.0 (compact o.index), length-compact o.index, (compact-size-most o.index).1))

pub at-most-668 : (t : State) → Fits t → length (state_bytes t) ≤ 668
at-most-668 t f =
    omega (
      arith,
      record-long t,
      f.name,
      f.resource,
      held-long t.owner (amounts_of t),
      times_long (times_of t),
      owner-most t.owner f.sized.owner.hash,
      amount-most t.value,
      amount-most t.highest,
      time-most t.transfer,
      time-most t.revoked,
      time-most t.claimed,
      amount-most t.renewals,
    )
