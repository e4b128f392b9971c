-- The item of an accepted covenant: found by a scan of its bytes, and held in its directory.
use mathlib.Core.Path.{◌≡◌, refl, ap, sym, ◌∙◌}
use Prim.Native.Nat.{ℕ, zero, suc, ◌+◌, ◌^◌, ◌≤◌, ◌<◌, min}
use native.Mathlib.Omega.{arith}
use mathlib.Core.List.{List, [], ◌∷◌}
use mathlib.Core.Option.{some, none}
use lib.ListN.{length, get_or, length-map, get_or-append}
use borrow.Author.Tests.{le-ltb, lt-ltb, le-leb}
use Rattle.words.proofs.Cases.{by_order}
use Rattle.refusal.specs.Outcome.{Outcome, ok, then, many_at}
use Rattle.refusal.proofs.Outcomes.{then-assoc}
use Rattle.refusal.proofs.Many.{many-next}
use Rattle.encoding.specs.Theorems.{Lent}
use Rattle.covenants.specs.Covenant.{item_at, head_at, Reading, covenant_at}
use Rattle.covenants.specs.Items.{found, nth, seek_at, directory_item}
use Rattle.words.specs.Buffers.{zero_padded}
use Rattle.covenants.specs.Paper.{listed, directory_of}
use Rattle.covenants.specs.Workers.{starts_of, lens_of}
use Rattle.covenants.proofs.Moves.{item-read, head_read, covenant_accepted}

nth-none : (xs : List (ℕ × ℕ)) (k : ℕ) → length xs ≤ k → nth xs k ≡ none
unfolding nth
nth-none [] k h = refl
nth-none (x ∷ xs) zero h = absurd (omega arith)
nth-none (x ∷ xs) (suc k) h = nth-none xs k (omega arith)

-- the item after k others is the k-th of those that were read
nth_read : (read : ℕ → Outcome (ℕ × ℕ)) (k n at : ℕ) {xs : List (ℕ × ℕ)} {end : ℕ} → k < n → many_at read n at ≡ ok xs end
    → found (then (many_at read k at) (λ before next. read next)) ≡ nth xs k
unfolding many_at nth
nth_read read k zero at h e = absurd (omega arith)
nth_read read zero (suc n) at h e =
    let w = many-next read {n = n} {n' = suc n} refl e in
    rw (w.split, w.here)
nth_read read (suc k) (suc n) at h e =
    let w = many-next read {n = n} {n' = suc n} refl e in
    rw (w.split, w.here, then-assoc (many_at read k w.next) (λ xs end. ok (w.first ∷ xs) end) (λ before next. read next))
    (nth_read read k n w.next (omega arith) w.rest)

seek-read : (s : List ℕ) (at index : ℕ) {kind n first : ℕ} {xs : List (ℕ × ℕ)} {end : ℕ} → head_at 1000009 s at ≡ ok (kind, n) first
    → many_at (item_at 1000009 at s) n first ≡ ok xs end → length xs ≡ n → seek_at s at index ≡ nth xs index
unfolding seek_at
seek-read s at index {kind} {n} {first} {xs} e many long =
    by_order index n
    (λ h. rw (e, lt-ltb index n h) (nth_read (item_at 1000009 at s) index n first h many))
    (λ h. rw (e, le-ltb index n h) (sym (nth-none xs index (omega arith))))

pub seek_finds : (s : List ℕ) (at index : ℕ) {r : Reading} {end : ℕ} → covenant_at 1000009 s at ≡ ok r end → seek_at s at index ≡ nth r.items index
seek_finds s at index {r} e =
    let a = covenant_accepted 1000009 s at e in
    seek-read s at index a.head a.items refl

-- an item that was read: its entries in the directory, and that it lies within
record Entry (s : List ℕ) (xs : List (ℕ × ℕ)) (k : ℕ) : Type 0 where
  part : ℕ × ℕ
  is : nth xs k ≡ some part
  starts : get_or (starts_of xs) k 0 ≡ part.0
  size : get_or (lens_of xs) k 0 ≡ part.1
  fits : part.0 + part.1 ≤ length s

entry : (allowance start : ℕ) (s : List ℕ) → length s < 2 ^ 64 → (k n at : ℕ) {xs : List (ℕ × ℕ)} {end : ℕ} → k < n → many_at (item_at allowance start s) n at ≡ ok xs end → Entry s xs k
unfolding nth
entry allowance start s big k zero at h e = absurd (omega arith)
entry allowance start s big zero (suc n) at h e =
    let w = many-next (item_at allowance start s) {n = n} {n' = suc n} refl e in
    let i = item-read allowance start s big at w.here in
    rw w.split (record { part = w.first; is = refl; starts = refl; size = refl; fits = omega (arith, i.starts, i.ends, i.fits) })
entry allowance start s big (suc k) (suc n) at h e =
    let w = many-next (item_at allowance start s) {n = n} {n' = suc n} refl e in
    let i = entry allowance start s big k n w.next (omega arith) w.rest in
    rw w.split (record { part = i.part; is = i.is; starts = i.starts; size = i.size; fits = i.fits })

-- the directory of those items
directory-entry : (s : List ℕ) (xs : List (ℕ × ℕ)) (k : ℕ) → k < length xs → length xs ≤ 1000 → Entry s xs k
    → directory_item s (listed (starts_of xs)) (listed (lens_of xs)) (length xs) k ≡ nth xs k
unfolding zero_padded directory_item
directory-entry s xs k h few i =
    let a : get_or (listed (starts_of xs)) k 0 ≡ i.part.0 = get_or-append (starts_of xs) _ 0 k (rw length-map h) ∙ i.starts in
    let b : get_or (listed (lens_of xs)) k 0 ≡ i.part.1 = get_or-append (lens_of xs) _ 0 k (rw length-map h) ∙ i.size in
    rw (a, b, lt-ltb k (length xs) h, lt-ltb k 1000 (omega arith), le-leb (i.part.0 + i.part.1) (length s) i.fits) (sym i.is)

directory-none : (s : List ℕ) (xs : List (ℕ × ℕ)) (k : ℕ) → length xs ≤ k → directory_item s (listed (starts_of xs)) (listed (lens_of xs)) (length xs) k ≡ nth xs k
unfolding directory_item
directory-none s xs k h = rw (le-ltb k (length xs) h) (sym (nth-none xs k h))

pub directory-holds : (limit : ℕ) (s : List ℕ) (at index : ℕ) {r : Reading} {end : ℕ} → Lent s → covenant_at limit s at ≡ ok r end
    → directory_item s (directory_of (ok r end)).starts (directory_of (ok r end)).lens (directory_of (ok r end)).count index ≡ nth r.items index
unfolding directory_of
directory-holds limit s at index {r} big e =
    let a = covenant_accepted limit s at e in
    let few = (head_read (min limit 1000009) s at (omega arith) a.head).few in
    by_order index (length r.items)
    (λ h. directory-entry s r.items index h few (entry (min limit 1000009) at s (omega arith) index (length r.items) a.first h a.items))
    (λ h. directory-none s r.items index h)

-- an item of an accepted covenant lies within the bytes
pub nth_inside : (s : List ℕ) (at k : ℕ) {r : Reading} {end : ℕ} {part : ℕ × ℕ} → length s < 2 ^ 64 → covenant_at 1000009 s at ≡ ok r end → nth r.items k ≡ some part → part.0 + part.1 ≤ length s
nth_inside s at k {r} {end} {part} big e f =
    let a = covenant_accepted 1000009 s at e in
    by_order k (length r.items)
    (λ h.
    let x = entry 1000009 at s big k (length r.items) a.first h a.items in
    let same : some x.part ≡ some part = sym x.is ∙ f in
    let p : x.part ≡ part = cc in
    omega (arith, x.fits, ap (λ (q : ℕ × ℕ). q.0) p, ap (λ (q : ℕ × ℕ). q.1) p))
    (λ h. let g = nth-none r.items k h in cc)
