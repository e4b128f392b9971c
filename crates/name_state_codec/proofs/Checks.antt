-- What the writer's checks tell, and the writer's answer after them.
use mathlib.Core.Path.{◌≡◌, refl, ap, sym, ◌∙◌}
use Prim.Native.Nat.{ℕ, ◌+◌, ◌≤◌, ◌<◌}
use native.Mathlib.Omega.{arith}
use mathlib.Core.List.{List, [], ◌∷◌, ◌++◌}
use mathlib.Core.Bool.{Bool, true, false}
use lib.ListN.{length, take, drop}
use lib.Seq.{take_at, drop_at}
use lib.Dec.{ltb}
use borrow.Author.Tests.{ltb-false, le-ltb}
use Rattle.refusal.proofs.Outcomes.{never_both, next-ok, checked}
use Rattle.words.specs.Buffers.{pick, over, fits}
use Rattle.refusal.specs.Outcome.{Outcome, ok, err, Wrote, wrote, refused, filled}
use Rattle.encoding.specs.Wire.{put_answer}
use Rattle.encoding.proofs.Compact.{put-none, put-room}
use Rattle.names.specs.Name.{max_name_size}
use Rattle.name_state.specs.State.{State, max_resource_size, max_safe_integer, binding}
use Rattle.name_state.proofs.Bound.{bound-keyed, keyed-bound}
use Rattle.name_state_codec.specs.Written.{unless, state_bytes, checked_size, encode_answer, encode_content}

-- a state that passed the checks
pub record Passed (t : State) (n : ℕ) : Type 0 where
  pub name : length t.name ≤ max_name_size
  pub resource : length t.resource ≤ max_resource_size
  pub value : t.value ≤ max_safe_integer
  pub highest : t.highest ≤ max_safe_integer
  pub bound : binding t ≡ ok tt 0
  pub size : length (state_bytes t) ≡ n

pub passes : (t : State) {n : ℕ} → checked_size t ≡ wrote n → Passed t n
unfolding checked_size
passes t {n} e =
    let a = checked (ltb max_name_size (length t.name)) _ _ _ e in
    let b = checked (ltb max_resource_size (length t.resource)) _ _ _ a.1 in
    let c = checked (ltb max_safe_integer t.value) _ _ _ b.1 in
    let d = checked (ltb max_safe_integer t.highest) _ _ _ c.1 in
    let f = go (binding t) refl d.1 in
    record {
      name = ltb-false max_name_size (length t.name) a.0;
      resource = ltb-false max_resource_size (length t.resource) b.0;
      value = ltb-false max_safe_integer t.value c.0;
      highest = ltb-false max_safe_integer t.highest d.0;
      bound = f.0;
      size = f.1;
    }
  where
    go : (o : Outcome Unit) → binding t ≡ o → unless o (wrote (length (state_bytes t))) ≡ wrote n → (binding t ≡ ok tt 0) × (length (state_bytes t) ≡ n)
    go (ok u p) e g = (keyed-bound t (bound-keyed t e), cc)
    go (err k vs p) e g = absurd (never_both g refl)

-- and one that does
pub passing : (t : State) {n : ℕ} → Passed t n → checked_size t ≡ wrote n
unfolding checked_size
passing t p =
    rw (le-ltb max_name_size (length t.name) p.name, le-ltb max_resource_size (length t.resource) p.resource, le-ltb max_safe_integer t.value p.value, le-ltb max_safe_integer t.highest p.highest, p.bound, p.size)

-- what was put is all of the bytes
put-size : (bs d : List ℕ) {n : ℕ} → put_answer 0 bs d ≡ wrote n → n ≡ length bs
unfolding put_answer
put-size bs d {n} e = go (fits 0 bs d) e
  where
    go : (b : Bool) → pick b (wrote (length bs)) (refused 29 (length bs ∷ [])) ≡ wrote n → n ≡ length bs
    go true g = cc
    go false g = absurd (never_both g refl)

module _ (t : State) (d : List ℕ) where
  answered : {w : Wrote} → encode_answer t d ≡ w → (w ≡ encode_answer t d) × (filled w (state_bytes t) d ≡ encode_content t d)
  unfolding encode_content
  answered e = (sym e, ap (λ w. filled w (state_bytes t) d) (sym e))

  pub encode-refused : {k : ℕ} {vs : List ℕ} → checked_size t ≡ refused k vs → (refused k vs ≡ encode_answer t d) × (d ≡ encode_content t d)
  unfolding encode_answer
  encode-refused e = answered (rw e)

  module _ {n : ℕ} (e : checked_size t ≡ wrote n) where
    pub encode-no-room : length d < n → (refused 29 (n ∷ []) ≡ encode_answer t d) × (d ≡ encode_content t d)
    unfolding encode_answer
    encode-no-room h = answered (rw e (sym (put-none 0 (state_bytes t) d n (passes t e).size (omega arith)).0))

    pub encode-done : {d' : List ℕ} → n ≤ length d → d' ≡ over 0 (state_bytes t) d → (wrote n ≡ encode_answer t d) × (d' ≡ encode_content t d)
    unfolding encode_answer
    encode-done h f =
        let r = answered {w = wrote n} (rw e (sym (put-room 0 (state_bytes t) d n (passes t e).size (omega arith) f).0)) in
        (r.0, f ∙ r.1)

  -- a state that was written: so many bytes, from the first on, and the others as they were
  pub encode-wrote : {n : ℕ} → encode_answer t d ≡ wrote n → (n ≡ length (state_bytes t)) × (take n (encode_content t d) ≡ state_bytes t) × (drop n (encode_content t d) ≡ drop n d)
  unfolding encode_answer encode_content over
  encode-wrote {n} e =
      let w = next-ok (checked_size t) e in
      let k = put-size (state_bytes t) d w.2 in
      let z : 0 + length (state_bytes t) ≡ n = omega (arith, k) in
      let c : encode_content t d ≡ state_bytes t ++ drop n d = ap (λ (a : Wrote). filled a (state_bytes t) d) e ∙ ap (λ (m : ℕ). state_bytes t ++ drop m d) z in
      (k, ap (take n) c ∙ take_at (state_bytes t) (drop n d) n (sym k), ap (drop n) c ∙ drop_at (state_bytes t) (drop n d) n (sym k))
