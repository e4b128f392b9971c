-- What is read under an allowance is read alike under a larger one.
use mathlib.Core.Path.{◌≡◌, refl, ap, sym, ◌∙◌}
use Prim.Native.Nat.{ℕ, zero, suc, ◌+◌, ◌-◌, ◌≤◌, min}
use native.Mathlib.Omega.{arith}
use mathlib.Core.List.{List}
use lib.ListN.{length}
use lib.Dec.{ltb}
use borrow.Author.Tests.{ltb-false, le-ltb}
use Rattle.refusal.specs.Outcome.{ok, many_at}
use Rattle.refusal.proofs.Outcomes.{then_ok, passed}
use Rattle.refusal.proofs.Many.{many-next}
use Rattle.encoding.specs.Wire.{inside, fixed_at, compact_most, slice_at}
use Rattle.covenants.specs.Covenant.{allowed, item_at, head_at, Reading, opening, body_at, covenant_at}
use Rattle.covenants.proofs.Moves.{covenant-opened, opened-read}

module _ {allowance allowance' : ℕ} (more : allowance ≤ allowance') (s : List ℕ) where
  -- what is left of the allowance is no less
  allowed-grows : (start at : ℕ) {left p : ℕ} → allowed allowance start at ≡ ok left p
      → (left' : ℕ) × (left ≤ left') × (p ≡ at) × (allowed allowance' start at ≡ ok left' at)
  unfolding allowed
  allowed-grows start at {left} {p} e =
      let w = passed (ltb allowance (at - start)) _ _ _ _ e in
      let within = ltb-false allowance (at - start) w.0 in
      let told = w.1 in
      let rest : allowance - (at - start) ≡ left = cc in
      let here : at ≡ p = cc in
      (allowance' - (at - start), omega arith, sym here, rw (le-ltb allowance' (at - start) (omega arith)))

  item-grows : (start at : ℕ) {part : ℕ × ℕ} {next : ℕ} → item_at allowance start s at ≡ ok part next → item_at allowance' start s at ≡ ok part next
  unfolding item_at
  item-grows start at {part} {next} e =
      let size = then_ok (compact_most 1000000 s at) e in
      let left = then_ok (allowed allowance start size.1) size.3 in
      let grown = allowed-grows start size.1 left.2 in
      let room = passed (ltb left.0 size.0) _ _ _ _ left.3 in
      let enough = ltb-false left.0 size.0 room.0 in
      rw (size.2, grown.3, le-ltb grown.0 size.0 (omega (arith, grown.1))) (ap (slice_at size.0 s) (sym grown.2) ∙ room.1)

  items-grow : (start n at : ℕ) {xs : List (ℕ × ℕ)} {end : ℕ} → many_at (item_at allowance start s) n at ≡ ok xs end → many_at (item_at allowance' start s) n at ≡ ok xs end
  unfolding many_at
  items-grow start zero at e = e
  items-grow start (suc n) at {xs} {end} e =
      let w = many-next (item_at allowance start s) {n = n} {n' = suc n} refl e in
      rw (item-grows start at w.here, items-grow start n w.next w.rest) (ap (λ l. ok l end) (sym w.split))

  head-grows : (at : ℕ) {head : ℕ × ℕ} {next : ℕ} → head_at allowance s at ≡ ok head next → head_at allowance' s at ≡ ok head next
  unfolding head_at
  head-grows at {head} {next} e =
      let kind = then_ok (fixed_at 1 s at) e in
      let count = then_ok (compact_most 1000 s kind.1) kind.3 in
      let left = then_ok (allowed allowance at count.1) count.3 in
      let grown = allowed-grows at count.1 left.2 in
      rw (kind.2, count.2, grown.3) (ap (ok (kind.0, count.0)) (sym grown.2) ∙ left.3)

pub covenant-grows : (limit limit' : ℕ) (s : List ℕ) (at : ℕ) {r : Reading} {end : ℕ} → limit ≤ limit' → covenant_at limit s at ≡ ok r end → covenant_at limit' s at ≡ ok r end
unfolding opening inside
covenant-grows limit limit' s at more e =
    let a = min limit 1000009 in
    let a' = min limit' 1000009 in
    let h : a ≤ a' = omega arith in
    let one = then_ok (opening a s at (head_at a s at)) (sym (covenant-opened limit s at refl) ∙ e) in
    let opens = opened-read a s at (head_at a s at) one.2 in
    let two = then_ok (many_at (item_at a at s) one.0.1 one.1) one.3 in
    covenant-opened limit' s at refl
    ∙ rw (le-ltb (length s) at opens.0, le-ltb a' 2 (omega (arith, opens.1)), head-grows h s at opens.2, items-grow h s at one.0.1 one.1 two.2) two.3

-- so the largest allowance reads what any other does: one above 1,000,009 counts as that
pub at-largest : (limit : ℕ) (s : List ℕ) (at : ℕ) {r : Reading} {end : ℕ} → covenant_at limit s at ≡ ok r end → covenant_at 1000009 s at ≡ ok r end
unfolding covenant_at
at-largest limit s at e =
    let capped : min (limit + 1000009) 1000009 ≡ min 1000009 1000009 = omega arith in
    ap (λ a. opening a s at (body_at a s at)) (sym capped) ∙ covenant-grows limit (limit + 1000009) s at (omega arith) e
