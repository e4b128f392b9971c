-- How far the readers of a covenant go, and what its outcome tells of the reads that it was made of.
use mathlib.Core.Path.{◌≡◌, refl, ap, ap₂, sym, ◌∙◌}
use Prim.Native.Nat.{ℕ, zero, suc, ◌+◌, ◌-◌, ◌^◌, ◌≤◌, ◌<◌, min}
use native.Mathlib.Omega.{arith}
use mathlib.Core.List.{List, [], ◌∷◌}
use mathlib.Core.Bool.{Bool, true, false}
use lib.ListN.{length}
use lib.Dec.{ltb, eqb}
use borrow.Author.Tests.{ltb-false, lt-ltb, le-ltb}
use Rattle.words.specs.Buffers.{pick}
use Rattle.refusal.specs.Outcome.{Stand, Outcome, ok, err, then, past, many_at}
use Rattle.refusal.proofs.Outcomes.{then_ok, passed, never, then-err, past-ok}
use Rattle.refusal.proofs.Many.{many-long, many-next}
use Rattle.encoding.specs.Wire.{inside, remaining_at, fixed_at, compact_most, slice_at, finish_at}
use Rattle.encoding.proofs.Fixed.{fixed-moves, most-moves}
use Rattle.encoding.proofs.Slice as slice
use Rattle.covenants.specs.Covenant.{allowed, item_at, head_at, Reading, finished, opening, body_at, covenant_at, whole_covenant, skimmed}

-- an item that was read: its length, then its bytes, within the allowance
pub record Item (allowance start : ℕ) (s : List ℕ) (at : ℕ) (part : ℕ × ℕ) (next : ℕ) : Type 0 where
  pub begins : ℕ
  pub sized : compact_most 1000000 s at ≡ ok part.1 begins
  pub starts : part.0 ≡ begins
  pub ends : next ≡ begins + part.1
  pub later : at < begins
  pub fits : next ≤ length s
  pub read : slice_at part.1 s begins ≡ ok part next
  pub spent : begins - start ≤ allowance
  pub room : part.1 ≤ allowance - (begins - start)

module _ (allowance start : ℕ) (s : List ℕ) (big : length s < 2 ^ 64) where
  pub item-read : (at : ℕ) {part : ℕ × ℕ} {next : ℕ} → item_at allowance start s at ≡ ok part next → Item allowance start s at part next
  unfolding item_at allowed
  item-read at {part} {next} e =
      let size = then_ok (compact_most 1000000 s at) e in
      let m = most-moves 1000000 s at big size.2 in
      let left = then_ok (pick (ltb allowance (size.1 - start)) (err 5 ((size.1 - start) ∷ allowance ∷ []) size.1) (ok (allowance - (size.1 - start)) size.1)) size.3 in
      let within = passed (ltb allowance (size.1 - start)) _ _ _ _ left.2 in
      let within-test = ltb-false allowance (size.1 - start) within.0 in
      let within-told = within.1 in
      let same : left.1 ≡ size.1 = cc in
      let rest : left.0 ≡ allowance - (size.1 - start) = cc in
      let bytes = passed (ltb left.0 size.0) _ _ _ _ left.3 in
      let bytes-test = ltb-false left.0 size.0 bytes.0 in
      let told : slice_at size.0 s size.1 ≡ ok part next = ap (slice_at size.0 s) (sym same) ∙ bytes.1 in
      let p = slice.read size.0 s size.1 big told in
      let n = p.size in
      record {
        begins = size.1;
        sized = size.2 ∙ ap (λ k. ok k size.1) (sym n);
        starts = p.start;
        ends = omega (arith, p.ends);
        later = m.0;
        fits = omega (arith, p.ends, p.fits);
        read = ap (λ k. slice_at k s size.1) n ∙ told;
        spent = omega arith;
        room = omega arith;
      }

  -- items pass their bytes
  pub items-move : (n at : ℕ) {xs : List (ℕ × ℕ)} {end : ℕ} → many_at (item_at allowance start s) n at ≡ ok xs end → (at ≤ end) × (at ≤ length s → end ≤ length s)
  unfolding many_at
  items-move zero at {xs} {end} e = let same : at ≡ end = cc in (omega arith, λ h. omega arith)
  items-move (suc n) at {xs} {end} e =
      let w = many-next (item_at allowance start s) {n = n} {n' = suc n} refl e in
      let i = item-read at w.here in
      let m = items-move n w.next w.rest in
      (omega (arith, i.later, i.ends), λ h. m.1 i.fits)

-- a head that was read
pub record Head (allowance : ℕ) (s : List ℕ) (at : ℕ) (head : ℕ × ℕ) (next : ℕ) : Type 0 where
  pub kind : fixed_at 1 s at ≡ ok head.0 (at + 1)
  pub count : compact_most 1000 s (at + 1) ≡ ok head.1 next
  pub later : at + 1 < next
  pub fits : next ≤ length s
  pub few : head.1 ≤ 1000
  pub spent : next - at ≤ allowance

pub head_read : (allowance : ℕ) (s : List ℕ) (at : ℕ) {head : ℕ × ℕ} {next : ℕ} → length s < 2 ^ 64 → head_at allowance s at ≡ ok head next → Head allowance s at head next
unfolding head_at allowed
head_read allowance s at {head} {next} big e =
    let one = then_ok (fixed_at 1 s at) e in
    let m = fixed-moves 1 s at big one.2 in
    let two = then_ok (compact_most 1000 s one.1) one.3 in
    let k = most-moves 1000 s one.1 big two.2 in
    let left = then_ok (pick (ltb allowance (two.1 - at)) (err 5 ((two.1 - at) ∷ allowance ∷ []) two.1) (ok (allowance - (two.1 - at)) two.1)) two.3 in
    let within = passed (ltb allowance (two.1 - at)) _ _ _ _ left.2 in
    let within-test = ltb-false allowance (two.1 - at) within.0 in
    let within-told = within.1 in
    let same : left.1 ≡ two.1 = cc in
    let end : left.1 ≡ next = cc in
    let pair : ◌≡◌ {A = ℕ × ℕ} (one.0, two.0) head = cc in
    let first : one.0 ≡ head.0 = ap (λ (x : ℕ × ℕ). x.0) pair in
    let many : two.0 ≡ head.1 = ap (λ (x : ℕ × ℕ). x.1) pair in
    let stop : two.1 ≡ next = cc in
    record {
      kind = one.2 ∙ ap (ok one.0) m.0 ∙ ap (λ k. ok k (at + 1)) first;
      count = ap (compact_most 1000 s) (sym m.0) ∙ two.2 ∙ ap (ok two.0) stop ∙ ap (λ k. ok k next) many;
      later = omega arith;
      fits = omega arith;
      few = omega arith;
      spent = omega arith;
    }

-- the tests before the first byte, and then what comes after it
pub opening-then : {A B : Type 0} (allowance : ℕ) (s : List ℕ) (at : ℕ) (o : Outcome A) (f : A → ℕ → Outcome B) → then (opening allowance s at o) f ≡ opening allowance s at (then o f)
unfolding inside opening
opening-then {A} {B} allowance s at o f = go (ltb (length s) at) (ltb allowance 2)
  where
    go : (a b : Bool)
        → then (pick a (err 1 (at ∷ (at - length s) ∷ []) at) (pick b (err 5 (2 ∷ allowance ∷ []) at) o)) f
        ≡ pick a (err 1 (at ∷ (at - length s) ∷ []) at) (pick b (err 5 (2 ∷ allowance ∷ []) at) (then o f))
    go true b = refl
    go false true = refl
    go false false = refl

-- a covenant is its head, and then its items
abbrev pub After : ℕ → List ℕ → ℕ → ℕ × ℕ → ℕ → Outcome Reading
After allowance s at head next = then (many_at (item_at allowance at s) head.1 next) (finished head.0 at)

pub covenant-opened : (limit : ℕ) (s : List ℕ) (at : ℕ) {allowance : ℕ} → allowance ≡ min limit 1000009
    → covenant_at limit s at ≡ then (opening allowance s at (head_at allowance s at)) (After allowance s at)
unfolding covenant_at body_at
covenant-opened limit s at {allowance} e = rw (← e) (sym (opening-then allowance s at (head_at allowance s at) (After allowance s at)))

-- what a head that was read after the tests tells
pub opened-read : {A : Type 0} (allowance : ℕ) (s : List ℕ) (at : ℕ) (o : Outcome A) {a : A} {next : ℕ} → opening allowance s at o ≡ ok a next
    → (at ≤ length s) × (2 ≤ allowance) × (o ≡ ok a next)
unfolding inside opening
opened-read allowance s at o e =
    let one = passed (ltb (length s) at) _ _ _ _ e in
    let two = passed (ltb allowance 2) _ _ _ _ one.1 in
    (ltb-false (length s) at one.0, ltb-false allowance 2 two.0, two.1)

pub opened-head : (allowance : ℕ) (s : List ℕ) (at : ℕ) {head : ℕ × ℕ} {next : ℕ} → opening allowance s at (head_at allowance s at) ≡ ok head next → length s < 2 ^ 64
    → Head allowance s at head next
opened-head allowance s at e big = head_read allowance s at big (opened-read allowance s at (head_at allowance s at) e).2

-- ---- a covenant without its directory, from its head and what its items come to

module _ (limit : ℕ) (s : List ℕ) (at : ℕ) {start allowance : ℕ} (made : (start ≡ at) × (allowance ≡ min limit 1000009)) where
  skim-opened : covenant_at limit s at ≡ then (opening allowance s start (head_at allowance s start)) (After allowance s start)
  skim-opened = rw made.0 (covenant-opened limit s at made.1)

  pub skim-refused : {k : ℕ} {vs : List ℕ} {p : Stand} → opening allowance s start (head_at allowance s start) ≡ err k vs p → covenant_at limit s at ≡ err k vs p
  skim-refused e = skim-opened ∙ rw e

  module _ {head : ℕ × ℕ} {next : ℕ} (e : opening allowance s start (head_at allowance s start) ≡ ok head next) where
    abbrev Items : Outcome (List (ℕ × ℕ))
    Items = many_at (item_at allowance start s) head.1 next

    pub skim-body : covenant_at limit s at ≡ then Items (finished head.0 start)
    skim-body = skim-opened ∙ rw e

    pub skim-stopped : {k : ℕ} {vs : List ℕ} {p : Stand} → past Items ≡ err k vs p → err k vs p ≡ skimmed (covenant_at limit s at)
    skim-stopped f = rw (skim-body, then-err Items (finished head.0 start) f)

    pub skim-ended : {end : ℕ} → past Items ≡ ok tt end → ok (head.0, head.1, end - start) end ≡ skimmed (covenant_at limit s at)
    skim-ended {end} f =
        let r = past-ok Items f in
        let n = many-long (item_at allowance start s) head.1 next r.1 in
        rw (skim-body, r.1, n)

    pub skim-later : {end : ℕ} → length s < 2 ^ 64 → past Items ≡ ok tt end → start ≤ end
    skim-later {end} big f =
        let h = opened-head allowance s start e big in
        let r = past-ok Items f in
        omega (arith, h.later, (items-move allowance start s big head.1 next r.1).0)

-- ---- a covenant that is the whole input

-- nothing is passed where nothing is left
finish-stays : (s : List ℕ) (p : ℕ) {u : Unit} {q : ℕ} → finish_at s p ≡ ok u q → q ≡ p
unfolding finish_at inside
finish-stays s p {u} {q} e = go (eqb p (length s)) (passed (ltb (length s) p) _ _ _ _ e).1
  where
    go : (t : Bool) → pick t (ok u p) (err 3 (remaining_at s p ∷ []) p) ≡ ok u q → q ≡ p
    go true f = cc
    go false f = absurd (never f refl)

pub whole_long : (s : List ℕ) → 1000009 < length s → whole_covenant s ≡ err 5 (length s ∷ 1000009 ∷ []) 0
unfolding whole_covenant
whole_long s h = simp (lt-ltb _ _ h)

module _ (s : List ℕ) (h : length s ≤ 1000009) where
  pub whole-refused : {k : ℕ} {vs : List ℕ} {p : Stand} → covenant_at 1000009 s 0 ≡ err k vs p → whole_covenant s ≡ err k vs p
  unfolding whole_covenant
  whole-refused e = rw (le-ltb _ _ h, e)

  pub whole-trailing : {c : Reading} {p k : ℕ} {vs : List ℕ} {q : Stand} → covenant_at 1000009 s 0 ≡ ok c p → finish_at s p ≡ err k vs q → whole_covenant s ≡ err k vs q
  unfolding whole_covenant
  whole-trailing e f = rw (le-ltb _ _ h, e, f)

  pub whole-ended : {c : Reading} {p q : ℕ} → covenant_at 1000009 s 0 ≡ ok c p → finish_at s p ≡ ok tt q → whole_covenant s ≡ ok c p
  unfolding whole_covenant
  whole-ended {c} {p} {q} e f = let g : q ≡ p = finish-stays s p f in rw (le-ltb _ _ h, e, f, g)

-- ---- a covenant that was accepted

pub record Accepted (allowance : ℕ) (s : List ℕ) (at : ℕ) (c : Reading) (end : ℕ) : Type 0 where
  pub first : ℕ
  pub head : head_at allowance s at ≡ ok (c.kind, length c.items) first
  pub items : many_at (item_at allowance at s) (length c.items) first ≡ ok c.items end
  pub used : c.used ≡ end - at
  pub enough : 2 ≤ allowance

pub covenant_accepted : (limit : ℕ) (s : List ℕ) (at : ℕ) {c : Reading} {end : ℕ} → covenant_at limit s at ≡ ok c end → Accepted (min limit 1000009) s at c end
covenant_accepted limit s at {c} {end} e =
    let allowance = min limit 1000009 in
    let e' = sym (covenant-opened limit s at refl) ∙ e in
    let one = then_ok (opening allowance s at (head_at allowance s at)) e' in
    let opens = opened-read allowance s at (head_at allowance s at) one.2 in
    let two = then_ok (many_at (item_at allowance at s) one.0.1 one.1) one.3 in
    let three = two.3 in
    let whole : record { kind = one.0.0; items = two.0; used = two.1 - at } ≡ c = cc in
    let last : two.1 ≡ end = cc in
    let kind : one.0.0 ≡ c.kind = ap (λ (r : Reading). r.kind) whole in
    let items : two.0 ≡ c.items = ap (λ (r : Reading). r.items) whole in
    let used : two.1 - at ≡ c.used = ap (λ (r : Reading). r.used) whole in
    let many : one.0.1 ≡ length c.items = sym (many-long (item_at allowance at s) one.0.1 one.1 two.2) ∙ ap length items in
    record {
      first = one.1;
      head = opens.2 ∙ ap₂ (λ k n. ok (k, n) one.1) kind many;
      items = ap (λ n. many_at (item_at allowance at s) n one.1) (sym many) ∙ two.2 ∙ ap₂ ok items last;
      used = sym used ∙ ap (λ p. p - at) last;
      enough = opens.1;
    }

-- it takes two bytes at least, and stays within
pub covenant-moves : (limit : ℕ) (s : List ℕ) (at : ℕ) {c : Reading} {end : ℕ} → length s < 2 ^ 64 → covenant_at limit s at ≡ ok c end → (at + 2 ≤ end) × (end ≤ length s)
covenant-moves limit s at {c} {end} big e =
    let a = covenant_accepted limit s at e in
    let h = head_read (min limit 1000009) s at big a.head in
    let m = items-move (min limit 1000009) at s big (length c.items) a.first a.items in
    (omega (arith, h.later, m.0), m.1 h.fits)
