-- The theorems of specs/Theorems.antt.
use mathlib.Core.Path.{◌≡◌, refl, ap, sym, ◌∙◌}
use Prim.Native.Nat.{ℕ, ◌+◌, ◌^◌, ◌≤◌, ◌<◌}
use native.Mathlib.Omega.{arith}
use mathlib.Core.List.{List, [], ◌++◌, append-nil}
use mathlib.Core.Bool.{Bool, true, false}
use lib.ListN.{length}
use lib.Dec.{ltb}
use borrow.Author.Tests.{le-ltb, eq-eqb, ltb-false}
use Rattle.words.specs.Words.{Bytes}
use Rattle.words.specs.Sameness.{same}
use Rattle.words.proofs.Le.{part-long}
use Rattle.words.proofs.Sameness.{same_refl, same_true}
use Rattle.refusal.specs.Outcome.{Outcome, ok, err, then, wrote}
use Rattle.refusal.proofs.Outcomes.{never, then_ok, passed, ok-to, kept}
use Rattle.encoding.specs.Wire.{finish_at, inside, remaining_at, fixed_at, bytes_at, compact_at}
use Rattle.encoding.proofs.Fixed.{bytes_read, fixed-under}
use Rattle.primitives.specs.Outpoints.{null_outpoint}
use Rattle.primitives.specs.Theorems as outpoints
use Rattle.primitives.specs.declared.Outpoint.{Outpoint}
use Rattle.names.specs.Name.{max_name_size, name_hash}
use Rattle.name_state.specs.State.{State, max_resource_size, max_size, max_safe_integer, bitmap, binding}
use Rattle.name_state.proofs.Bound.{Keyed, bound-keyed, keyed-bound}
use Rattle.name_state_codec.specs.Written.{has, safe_integer, texts_bytes, numbers_bytes, held_bytes, times_bytes, record_with, state_bytes, checked_size}
use Rattle.name_state_codec.specs.Read.{unknown_bits, owner_index, renewal_count, known_bits, max_u32, up_to, texts_at, numbers_at, present, owner_at, amount_at, amounts_at, held_at, times_at, gathered, optional_at, fields_at, standing_at, judged_state, read_state}
use Rattle.name_state_codec.specs.Theorems.{Sized, Writable, AcceptedIsWritable, WritableIsAccepted, EncodeWrites, StateReadsBack, AcceptedIsWritten, WrittenAgain, StateHasOneReading, SameBytesSameKey}
use Rattle.name_state_codec.proofs.Inside.{up-to, texts-inside}
use Rattle.name_state_codec.proofs.Canonical.{finish-end}
use Rattle.name_state_codec.proofs.Checks.{passes, passing, encode-done, encode-wrote}
use Rattle.name_state_codec.proofs.Back.{Fits, fields_back}
use Rattle.name_state_codec.proofs.Short.{at-most-668}

pub accepted-is-writable : AcceptedIsWritable
accepted-is-writable t n sized e =
    let p = passes t e in
    record { sized = sized; name = p.name; resource = p.resource; value = p.value; highest = p.highest; bound = bound-keyed t p.bound }

pub writable-is-accepted : WritableIsAccepted
writable-is-accepted t w =
    passing t (record { name = w.name; resource = w.resource; value = w.value; highest = w.highest; bound = keyed-bound t w.bound; size = refl })

pub encode-writes : EncodeWrites
encode-writes t d n e = let w = encode-wrote t d e in (w.1, w.0, w.2)

fits : (t : State) → Writable t → Fits t
fits t w = record { name = w.name; resource = w.resource; value = w.value; highest = w.highest; sized = w.sized }

bound : (t : State) → Writable t → binding t ≡ ok tt 0
bound t w = keyed-bound t w.bound

pub state-reads-back : StateReadsBack
unfolding read_state judged_state finish_at inside remaining_at
state-reads-back t w =
    let s = state_bytes t in
    let n = length s in
    let short = at-most-668 t (fits t w) in
    let f = fields_back s (omega (arith, short)) t 0 [] (fits t w) (omega arith, sym (append-nil s)) in
    let z : 0 + length s ≡ length s = omega arith in
    rw (le-ltb max_size n short, f, z, le-ltb n n (omega arith), eq-eqb n n refl, bound t w, same_refl s)

-- what was read: under the key that was given, and within the writer's bounds
pub record Within (key : List ℕ) (t : State) : Type 0 where
  pub under : t.key ≡ key
  pub name : length t.name ≤ max_name_size
  pub resource : length t.resource ≤ max_resource_size
  pub value : t.value ≤ max_safe_integer
  pub highest : t.highest ≤ max_safe_integer

-- an amount that was read, or is not there
amount-within : (b : Bool) (s : List ℕ) (at : ℕ) {v p : ℕ} → present b (amount_at s at) 0 at ≡ ok v p → v ≤ max_safe_integer
unfolding amount_at
amount-within true s at {v} {p} e =
    let w = then_ok (compact_at s at) e in
    let u = up-to max_safe_integer safe_integer w.0 w.1 w.3 in
    omega (arith, u.0, u.2)
amount-within false s at {v} {p} e = let z : 0 ≡ v = cc in omega arith

amounts-within : (b : ℕ) (s : List ℕ) (at : ℕ) (h : ℕ × ℕ) (p : ℕ) → amounts_at b s at ≡ ok h p → (h.0 ≤ max_safe_integer) × (h.1 ≤ max_safe_integer)
unfolding amounts_at
amounts-within b s at h p e =
    let x = then_ok (present (has 2 b) (amount_at s at) 0 at) e in
    let y = then_ok (present (has 4 b) (amount_at s x.1) 0 x.1) x.3 in
    ok-to (λ h p. (h.0 ≤ max_safe_integer) × (h.1 ≤ max_safe_integer)) y.3 (amount-within (has 2 b) s at x.2, amount-within (has 4 b) s x.1 y.2)

fields_within : (key s : List ℕ) (at : ℕ) (r : ℕ × State) (p : ℕ) → length s < 2 ^ 64 → fields_at key s at ≡ ok r p → Within key r.1
unfolding fields_at optional_at held_at amounts_at gathered
fields_within key s at r p big e =
    let t = then_ok (texts_at s at) e in
    let n = then_ok (numbers_at s t.1) t.3 in
    let h = then_ok (held_at n.0.2 s n.1) n.3 in
    let x = then_ok (times_at n.0.2 s h.1) h.3 in
    let o = then_ok (present (has 1 n.0.2) (owner_at s n.1) null_outpoint n.1) h.2 in
    let a = then_ok (amounts_at n.0.2 s o.1) o.3 in
    let i = texts-inside s at big t.2 in
    let A = amounts-within n.0.2 s o.1 a.0 a.1 a.2 in
    let B : (h.0.1.0 ≤ max_safe_integer) × (h.0.1.1 ≤ max_safe_integer) = ok-to (λ k q. (k.1.0 ≤ max_safe_integer) × (k.1.1 ≤ max_safe_integer)) a.3 A in
    ok-to (λ r p. Within key r.1) x.3
    (record {
      under = refl;
      name = omega (arith, part-long s t.0.0.0 t.0.0.1 i.2, i.0);
      resource = omega (arith, part-long s t.0.1.0 t.0.1.1 i.3, i.1);
      value = B.0;
      highest = B.1;
    })

-- ---- the widths of what was read from bytes

-- a height that was read, or is not there
time-under : (b : Bool) (s : List ℕ) (at : ℕ) {v p : ℕ} → Bytes s → present b (fixed_at 4 s at) 0 at ≡ ok v p → v < 2 ^ 32
time-under true s at small e = omega (arith, fixed-under 4 s at small e)
time-under false s at {v} {p} small e = let z : 0 ≡ v = cc in omega arith

-- a compact number of 32 bits that was read
count_under : (s : List ℕ) (at reason : ℕ) {v p : ℕ} → then (compact_at s at) (up_to max_u32 reason) ≡ ok v p → v < 2 ^ 32
count_under s at reason e =
    let w = then_ok (compact_at s at) e in
    let u = up-to max_u32 reason w.0 w.1 w.3 in
    omega (arith, u.0, u.2)

renewals-under : (b : Bool) (s : List ℕ) (at : ℕ) {v p : ℕ} → present b (then (compact_at s at) (up_to max_u32 renewal_count)) 0 at ≡ ok v p → v < 2 ^ 32
renewals-under true s at e = count_under s at renewal_count e
renewals-under false s at {v} {p} e = let z : 0 ≡ v = cc in omega arith

owner-sized : (b : Bool) (s : List ℕ) (at : ℕ) {o : Outpoint} {p : ℕ} → length s < 2 ^ 64 → present b (owner_at s at) null_outpoint at ≡ ok o p → outpoints.Sized o
unfolding owner_at
owner-sized true s at big e =
    let w = then_ok (bytes_at 32 s at) e in
    let v = then_ok (then (compact_at s w.1) (up_to max_u32 owner_index)) w.3 in
    let k = bytes_read 32 s at big w.2 in
    ok-to (λ (o : Outpoint) (p : ℕ). outpoints.Sized o) v.3 (record { hash = ap length k.are ∙ part-long s at 32 k.fits; index = count_under s w.1 owner_index v.2 })
owner-sized false s at big e = ok-to (λ (o : Outpoint) (p : ℕ). outpoints.Sized o) e (record { hash = refl; index = omega arith })

numbers-under : (s : List ℕ) (at : ℕ) {n : ℕ × ℕ × ℕ} {p : ℕ} → Bytes s → numbers_at s at ≡ ok n p → (n.0 < 2 ^ 32) × (n.1 < 2 ^ 32)
unfolding numbers_at
numbers-under s at small e =
    let c = then_ok (fixed_at 4 s at) e in
    let d = then_ok (fixed_at 4 s c.1) c.3 in
    let f = then_ok (then (fixed_at 2 s d.1) (up_to known_bits unknown_bits)) d.3 in
    ok-to (λ (n : ℕ × ℕ × ℕ) (p : ℕ). (n.0 < 2 ^ 32) × (n.1 < 2 ^ 32)) f.3 (omega (arith, fixed-under 4 s at small c.2), omega (arith, fixed-under 4 s c.1 small d.2))

times-under : (b : ℕ) (s : List ℕ) (at : ℕ) {x : ℕ × ℕ × ℕ × ℕ} {p : ℕ} → Bytes s → times_at b s at ≡ ok x p → (x.0 < 2 ^ 32) × (x.1 < 2 ^ 32) × (x.2 < 2 ^ 32) × (x.3 < 2 ^ 32)
unfolding times_at
times-under b s at small e =
    let w = then_ok (present (has 8 b) (fixed_at 4 s at) 0 at) e in
    let x = then_ok (present (has 16 b) (fixed_at 4 s w.1) 0 w.1) w.3 in
    let y = then_ok (present (has 32 b) (fixed_at 4 s x.1) 0 x.1) x.3 in
    let z = then_ok (present (has 64 b) (then (compact_at s y.1) (up_to max_u32 renewal_count)) 0 y.1) y.3 in
    ok-to (λ (x : ℕ × ℕ × ℕ × ℕ) (p : ℕ). (x.0 < 2 ^ 32) × (x.1 < 2 ^ 32) × (x.2 < 2 ^ 32) × (x.3 < 2 ^ 32)) z.3
    (time-under (has 8 b) s at small w.2, time-under (has 16 b) s w.1 small x.2, time-under (has 32 b) s x.1 small y.2, renewals-under (has 64 b) s y.1 z.2)

fields-sized : (key s : List ℕ) (at : ℕ) (r : ℕ × State) (p : ℕ) → Bytes s → length s < 2 ^ 64 → fields_at key s at ≡ ok r p → Sized r.1
unfolding fields_at optional_at held_at gathered
fields-sized key s at r p small big e =
    let t = then_ok (texts_at s at) e in
    let n = then_ok (numbers_at s t.1) t.3 in
    let h = then_ok (held_at n.0.2 s n.1) n.3 in
    let x = then_ok (times_at n.0.2 s h.1) h.3 in
    let o = then_ok (present (has 1 n.0.2) (owner_at s n.1) null_outpoint n.1) h.2 in
    let a = then_ok (amounts_at n.0.2 s o.1) o.3 in
    let N = numbers-under s t.1 small n.2 in
    let T = times-under n.0.2 s h.1 small x.2 in
    let O : outpoints.Sized h.0.0 = ok-to (λ (k : Outpoint × (ℕ × ℕ)) (q : ℕ). outpoints.Sized k.0) a.3 (owner-sized (has 1 n.0.2) s n.1 big o.2) in
    ok-to (λ r p. Sized r.1) x.3
    (record { height = N.0; renewal = N.1; owner = O; transfer = T.0; revoked = T.1; claimed = T.2; renewals = T.3 })

-- ---- what is accepted

-- what was judged where the reader stood
stood : (o : Outcome Unit) (at : ℕ) {u : Unit} {p : ℕ} → standing_at at o ≡ ok u p → (v : Unit) × (q : ℕ) × (o ≡ ok v q) × (p ≡ at)
stood (ok v q) at e = (v, q, refl, cc)
stood (err k vs q) at e = absurd (never e refl)

pub record Accepted (key s : List ℕ) (t : State) (p : ℕ) : Type 0 where
  pub within : Within key t
  pub sized : Bytes s → Sized t
  pub bound : Keyed t
  pub bytes : state_bytes t ≡ s
  pub ends : p ≡ length s

pub accepted : (key s : List ℕ) (t : State) (p : ℕ) → read_state key s ≡ ok t p → Accepted key s t p
unfolding read_state judged_state
accepted key s t p e =
    let a = passed (ltb max_size (length s)) _ _ _ _ e in
    let few = ltb-false max_size (length s) a.0 in
    let b = then_ok (fields_at key s 0) a.1 in
    let c = then_ok (finish_at s b.1) b.3 in
    let d = then_ok (standing_at c.1 (binding b.0.1)) c.3 in
    let f = kept (same (state_bytes b.0.1) s) _ _ _ _ d.3 in
    let q = stood (binding b.0.1) c.1 d.2 in
    let big : length s < 2 ^ 64 = omega arith in
    let ends : c.1 ≡ length s = (finish-end s b.1 c.2).1 in
    ok-to (λ t p. Accepted key s t p) f.1
    (record {
      within = fields_within key s 0 b.0 b.1 big b.2;
      sized = λ small. fields-sized key s 0 b.0 b.1 small big b.2;
      bound = bound-keyed b.0.1 q.2;
      bytes = same_true (state_bytes b.0.1) s f.0;
      ends = q.3 ∙ ends;
    })

accepted-passes : (key s : List ℕ) (t : State) (p : ℕ) → Accepted key s t p → checked_size t ≡ wrote (length s)
accepted-passes key s t p a =
    let w = a.within in
    passing t (record { name = w.name; resource = w.resource; value = w.value; highest = w.highest; bound = keyed-bound t a.bound; size = ap length a.bytes })

pub accepted-is-written : AcceptedIsWritten
accepted-is-written key s t p small e =
    let a = accepted key s t p e in
    let w = a.within in
    (w.under, a.bytes, record { sized = a.sized small; name = w.name; resource = w.resource; value = w.value; highest = w.highest; bound = a.bound }, accepted-passes key s t p a, a.ends)

pub written-again : WrittenAgain
written-again key s t p d e room =
    let a = accepted key s t p e in
    let r = sym (encode-done t d (accepted-passes key s t p a) room refl).0 in
    (r, (encode-wrote t d r).1 ∙ a.bytes)

-- one record begins another under the same key
one-reading : (t u : State) (rest : List ℕ) → Fits t → Fits u → t.key ≡ u.key → state_bytes t ++ rest ≡ state_bytes u → t ≡ u
one-reading t u rest ft fu key e =
    let big : length (state_bytes u) + 9 < 2 ^ 64 = omega (arith, at-most-668 u fu) in
    let s = state_bytes u in
    let a = fields_back s big t 0 rest ft (omega arith, sym e) in
    let b = fields_back s big u 0 [] fu (omega arith, sym (append-nil s)) in
    let c : ◌≡◌ {A = Outcome (ℕ × State)} (ok (bitmap t, t) (0 + length (state_bytes t))) (ok (bitmap u, u) (0 + length (state_bytes u))) = sym a ∙ ap (λ k. fields_at k s 0) key ∙ b in
    ok-to (λ (r : ℕ × State) (p : ℕ). t ≡ r.1) c refl

pub state-has-one-reading : StateHasOneReading
state-has-one-reading t u rest wt wu = one-reading t u rest (fits t wt) (fits u wu)

-- the state under another key
abbrev under : List ℕ → State → State
under key t =
    record { key = key; name = t.name; resource = t.resource; height = t.height; renewal = t.renewal; owner = t.owner; value = t.value; highest = t.highest; transfer = t.transfer; revoked = t.revoked; claimed = t.claimed; renewals = t.renewals; registered = t.registered; expired = t.expired; weak = t.weak }

under-bytes : (key : List ℕ) (t : State) → state_bytes (under key t) ≡ state_bytes t
unfolding state_bytes record_with bitmap texts_bytes numbers_bytes held_bytes times_bytes
under-bytes key t = refl

under-fits : (key : List ℕ) (t : State) → Fits t → Fits (under key t)
under-fits key t f =
    let s = f.sized in
    record {
      name = f.name;
      resource = f.resource;
      value = f.value;
      highest = f.highest;
      sized = record { height = s.height; renewal = s.renewal; owner = s.owner; transfer = s.transfer; revoked = s.revoked; claimed = s.claimed; renewals = s.renewals };
    }

pub same-bytes-same-key : SameBytesSameKey
same-bytes-same-key t u wt wu nt nu e =
    let m = one-reading t (under t.key u) [] (fits t wt) (under-fits t.key u (fits u wu)) refl (append-nil (state_bytes t) ∙ e ∙ sym (under-bytes t.key u)) in
    let c = sym (wt.bound nt) ∙ ap (λ (x : State). name_hash x.name) m ∙ wu.bound nu in
    cc
