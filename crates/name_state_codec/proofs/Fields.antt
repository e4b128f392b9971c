-- How long the fields are, and where they are put.
use mathlib.Core.Path.{◌≡◌, refl, ap, sym, ◌∙◌}
use Prim.Native.Nat.{ℕ, ◌+◌, ◌≤◌}
use native.Mathlib.Omega.{arith}
use mathlib.Core.List.{List, ◌++◌}
use mathlib.Core.Bool.{false}
use lib.ListN.{length, length-append}
use Rattle.std.specs.Prelude.{Result, Ok}
use Rattle.refusal.specs.Paper.{put_paper}
use Rattle.refusal.specs.declared.Refusal.{Refusal}
use Rattle.refusal.proofs.Same.{put_same}
use Rattle.encoding.specs.Wire.{compact, compact_size, put_answer}
use Rattle.encoding.proofs.Compact.{length-compact, put-room}
use Rattle.primitives.specs.Outpoints.{is_null}
use Rattle.primitives.specs.declared.Outpoint.{Outpoint}
use Rattle.name_state.specs.declared.Amounts.{Amounts}
use Rattle.name_state.specs.declared.Times.{Times}
use Rattle.name_state_codec.specs.Written.{owner_record}
use Rattle.name_state_codec.specs.Workers.{owner_bytes, amount_bytes, time_bytes, own_held, own_times}

pub an-owner : (o : Outpoint) → is_null o ≡ false → owner_bytes o ≡ owner_record o
unfolding owner_bytes
an-owner o h = rw h

pub owner-long : (o : Outpoint) → length o.transaction_hash.0 ≡ 32 → is_null o ≡ false → length (owner_bytes o) ≡ 32 + compact_size o.index
owner-long o h n = ap length (an-owner o n) ∙ length-append o.transaction_hash.0 (compact o.index) ∙ omega (arith, length-compact o.index)

pub held-long : (o : Outpoint) (a : Amounts) → length (own_held o a) ≡ length (owner_bytes o) + (length (amount_bytes a.value.0) + length (amount_bytes a.highest.0))
unfolding own_held
held-long o a =
    let v = amount_bytes a.value.0 in
    let h = amount_bytes a.highest.0 in
    length-append (owner_bytes o) (v ++ h) ∙ ap (λ n. length (owner_bytes o) + n) (length-append v h)

pub times_long : (t : Times)
    → length (own_times t) ≡ length (time_bytes t.transfer.0) + length (time_bytes t.revoked.0) + length (time_bytes t.claimed.0) + length (amount_bytes t.renewals)
unfolding own_times
times_long t =
    let a = time_bytes t.transfer.0 in
    let b = time_bytes t.revoked.0 in
    let c = time_bytes t.claimed.0 in
    omega (arith, length-append (a ++ b ++ c) (amount_bytes t.renewals), length-append (a ++ b) c, length-append a b)

-- a compact size that was put where there is room for it
pub put_all : (at v : ℕ) (d : List ℕ) {r : Result ℕ Refusal} → put_paper r ≡ put_answer at (compact v) d → at + length (compact v) ≤ length d → r ≡ Ok (length (compact v))
put_all at v d e h = put_same (e ∙ sym (put-room at (compact v) d _ refl h refl).0)
