-- The items of a place's covenant, from where they are found: at every place, whether or not a covenant can be read
-- there.
use mathlib.Core.Path.{◌≡◌, refl, ap, sym, ◌∙◌}
use Prim.Native.Nat.{ℕ, zero, suc, ◌+◌, ◌^◌, ◌≤◌, ◌<◌}
use native.Mathlib.Omega.{arith}
use mathlib.Core.List.{List, [], ◌∷◌}
use mathlib.Core.Option.{Option, some, none}
use lib.ListN.{length, get_or, length-map}
use borrow.Author.Tests.{lt-ltb, le-ltb}
use Rattle.words.proofs.Cases.{by_order}
use Rattle.words.proofs.Le.{part-long}
use Rattle.refusal.specs.Outcome.{Outcome, ok, err, then, many_at}
use Rattle.refusal.proofs.Outcomes.{then-assoc}
use Rattle.refusal.proofs.Many.{many-next, many-none}
use Rattle.covenants.specs.Covenant.{Reading, item_at, head_at, covenant_at, bytes_in, contents}
use Rattle.covenants.specs.Items.{found, counted, nth, seek_at}
use Rattle.covenants.proofs.Moves.{item-read, covenant_accepted}
use Rattle.covenants.proofs.Parts.{nth-there, nth-absent, nth-long, nth-short}
use Rattle.sheets.specs.Sheet.{upon, seen_at, parts_from, items_from}
use Rattle.sheets.specs.Theorems.{ItemsAreRead}

-- ---- reads in a row, as far as they go

-- all of them, where none is refused
seen_all : {A : Type 0} (read : ℕ → Outcome A) (n at : ℕ) {xs : List A} {end : ℕ} → many_at read n at ≡ ok xs end → seen_at read n at ≡ xs
unfolding seen_at
seen_all read zero at e = sym (many-none read {n = zero} at refl e)
seen_all read (suc n) at e =
    let w = many-next read {n = n} {n' = suc n} refl e in
    rw (w.here, seen_all read n w.next w.rest) (sym w.split)

module _ (read : ℕ → Outcome (ℕ × ℕ)) where
  abbrev After : ℕ → ℕ → Option (ℕ × ℕ)
  After k at = found (then (many_at read k at) (λ before next. read next))

  -- the one after k others, if so many can be read
  seen-nth : (k n at : ℕ) → k < n → nth (seen_at read n at) k ≡ After k at
  unfolding nth seen_at many_at
  seen-nth k zero at h = absurd (omega arith)
  seen-nth zero (suc n) at h = go (read at)
    where
      go : (o : Outcome (ℕ × ℕ)) → nth (upon o (λ x next. x ∷ seen_at read n next)) zero ≡ found o
      go (ok x next) = refl
      go (err k vs p) = refl
  seen-nth (suc k) (suc n) at h = go (λ next. seen-nth k n next (omega arith)) (read at)
    where
      go : ((next : ℕ) → nth (seen_at read n next) k ≡ After k next) → (o : Outcome (ℕ × ℕ))
          → nth (upon o (λ x next. x ∷ seen_at read n next)) (suc k) ≡ found (then (then o (λ x next. then (many_at read k next) (λ xs end. ok (x ∷ xs) end))) (λ before next. read next))
      go again (ok x next) = again next ∙ sym (ap found (then-assoc (many_at read k next) (λ xs end. ok (x ∷ xs) end) (λ before next. read next)))
      go again (err j vs p) = refl

  seen_no : (k n at : ℕ) → n ≤ k → nth (seen_at read n at) k ≡ none
  unfolding nth seen_at
  seen_no k zero at h = refl
  seen_no zero (suc n) at h = absurd (omega arith)
  seen_no (suc k) (suc n) at h = go (λ next. seen_no k n next (omega arith)) (read at)
    where
      go : ((next : ℕ) → nth (seen_at read n next) k ≡ none) → (o : Outcome (ℕ × ℕ)) → nth (upon o (λ x next. x ∷ seen_at read n next)) (suc k) ≡ none
      go again (ok x next) = again next
      go again (err j vs p) = refl

  -- what holds of each that can be read holds of what is found
  found-is : (P : ℕ × ℕ → Type 0) → ((at : ℕ) (x : ℕ × ℕ) (next : ℕ) → read at ≡ ok x next → P x) → {A : Type 0} (o : Outcome A) {part : ℕ × ℕ} → found (then o (λ before next. read next)) ≡ some part → P part
  found-is P each (ok a at) {part} e = go (read at) refl e
    where
      go : (o : Outcome (ℕ × ℕ)) → read at ≡ o → found o ≡ some part → P part
      go (ok x next) f e = let z : x ≡ part = cc in each at part next (f ∙ ap (λ y. ok y next) z)
      go (err k vs p) f e = absurd cc
  found-is P each (err k vs p) e = absurd cc

-- ---- the items of a covenant that is accepted are all there

pub parts_are : (s : List ℕ) (at : ℕ) {c : Reading} {end : ℕ} → covenant_at 1000009 s at ≡ ok c end → parts_from s at ≡ c.items
unfolding parts_from
parts_are s at {c} e =
    let a = covenant_accepted 1000009 s at e in
    rw a.head (seen_all (item_at 1000009 at s) (length c.items) a.first a.items)

pub items-are-read : ItemsAreRead
unfolding items_from
items-are-read s at c end e = ap (contents s) (parts_are s at e)

-- ---- an item, from where a scan finds it

module _ (s : List ℕ) (at k : ℕ) where
  pub seek-seen : nth (parts_from s at) k ≡ seek_at s at k
  unfolding parts_from seek_at nth
  seek-seen = go (head_at 1000009 s at)
    where
      go : (o : Outcome (ℕ × ℕ)) → nth (upon o (λ head first. seen_at (item_at 1000009 at s) head.1 first)) k ≡ counted o k (After (item_at 1000009 at s) k)
      go (ok head first) =
          by_order k head.1
          (λ h. rw (lt-ltb k head.1 h) (seen-nth (item_at 1000009 at s) k head.1 first h))
          (λ h. rw (le-ltb k head.1 h) (seen_no (item_at 1000009 at s) k head.1 first h))
      go (err n vs p) = refl

  items-long : length (items_from s at) ≡ length (parts_from s at)
  unfolding items_from
  items-long = length-map (parts_from s at) (bytes_in s)

  pub item-counted : {part : ℕ × ℕ} → seek_at s at k ≡ some part → k < length (items_from s at)
  item-counted e = let h = nth-long (parts_from s at) k (seek-seen ∙ e) in omega (arith, items-long)

  pub item-few : seek_at s at k ≡ none → length (items_from s at) ≤ k
  item-few e = let h = nth-short (parts_from s at) k (seek-seen ∙ e) in omega (arith, items-long)

  pub item-there : {a n : ℕ} → seek_at s at k ≡ some (a, n) → get_or (items_from s at) k [] ≡ bytes_in s (a, n)
  unfolding items_from
  item-there e = nth-there s (parts_from s at) k (seek-seen ∙ e)

  pub item-inside : {a n : ℕ} → length s < 2 ^ 64 → seek_at s at k ≡ some (a, n) → a + n ≤ length s
  unfolding seek_at
  item-inside {a} {n} big e = go (head_at 1000009 s at) e
    where
      each : (from : ℕ) (x : ℕ × ℕ) (next : ℕ) → item_at 1000009 at s from ≡ ok x next → x.0 + x.1 ≤ length s
      each from x next f = let i = item-read 1000009 at s big from f in omega (arith, i.starts, i.ends, i.fits)

      go : (o : Outcome (ℕ × ℕ)) → counted o k (After (item_at 1000009 at s) k) ≡ some (a, n) → a + n ≤ length s
      go (ok head first) e =
          by_order k head.1
          (λ h. found-is (item_at 1000009 at s) (λ x. x.0 + x.1 ≤ length s) each (many_at (item_at 1000009 at s) k first) (rw (lt-ltb k head.1 h) at e))
          (λ h. let f = (rw (le-ltb k head.1 h) at e) in absurd cc)
      go (err j vs p) e = absurd cc

  pub item-fits : {a n width : ℕ} → length s < 2 ^ 64 → n ≡ width → seek_at s at k ≡ some (a, n) → (a + width ≤ length s) × (get_or (items_from s at) k [] ≡ bytes_in s (a, width))
  item-fits {a} {n} {width} big w e = (omega (arith, item-inside big e), item-there e ∙ ap (λ (m : ℕ). bytes_in s (a, m)) w)

  pub item-none : {width : ℕ} → 0 < width → seek_at s at k ≡ none → length (get_or (items_from s at) k []) ≡ width → ⊥
  unfolding items_from
  item-none h e g =
      let x : get_or (contents s (parts_from s at)) k [] ≡ [] = nth-absent s (parts_from s at) k (seek-seen ∙ e) in
      let y : length (get_or (contents s (parts_from s at)) k []) ≡ 0 = ap length x in
      omega arith

  pub item-other : {a n width : ℕ} → length s < 2 ^ 64 → (n ≡ width → ⊥) → seek_at s at k ≡ some (a, n) → length (get_or (items_from s at) k []) ≡ width → ⊥
  item-other {a} {n} big h e g =
      let y : length (get_or (items_from s at) k []) ≡ n = ap length (item-there e) ∙ part-long s a n (item-inside big e) in
      h (omega arith)
