-- Two items that agree, from where they stand; name and start, item by item; two parts of one width, byte by byte.
use mathlib.Core.Path.{◌≡◌, refl, ap, ap₂, sym, subst, ◌∙◌}
use Prim.Native.Nat.{ℕ, zero, suc, ◌+◌, ◌-◌, ◌*◌, ◌^◌, ◌≤◌, ◌<◌}
use native.Mathlib.Omega.{arith}
use mathlib.Core.List.{List, [], ◌∷◌}
use mathlib.Core.Bool.{Bool, true, false}
use mathlib.Core.Option.{Option, some, none}
use lib.ListN.{length, get_or, get_or-eq_default}
use lib.Dec.{eqb}
use borrow.Author.Tests.{eq-eqb, ne_eqb, eqb-true, eqb-false}
use Rattle.std.specs.Prelude.{Result, Ok, Err}
use Rattle.words.specs.Buffers.{pick}
use Rattle.words.specs.Sameness.{same}
use Rattle.words.proofs.Le.{part-long}
use Rattle.refusal.specs.declared.Refusal.{Refusal}
use Rattle.refusal.specs.Paper.{number_of, carried}
use Rattle.encoding.specs.declared.read.Span.{Span}
use Rattle.covenants.specs.Covenant.{bytes_in}
use Rattle.covenants.specs.Items.{seek_at}
use Rattle.covenants.proofs.Parts.{same_more, same_not, same_none}
use Rattle.sheets.specs.Sheet.{items_from}
use Rattle.sheets.proofs.Items.{item-inside, item-there, item-few}
use Rattle.checks.specs.Checks.{Step, passes, breaks, and_then, check, agree, name_and_start}
use Rattle.checks.specs.Items.{placed, items_at, sized_pair, items_pair}
use Rattle.checks.specs.Workers.{Left}
use Rattle.checks.specs.declared.Items.{Items}
use Rattle.checks.specs.declared.Pair.{Pair}

-- ---- two items that agree

module _ (i k width field : ℕ) (xs ys : List (List ℕ)) where
  pub agree-first : (length (get_or xs k []) ≡ width → ⊥) → (number : ℕ) → agree i k width field number xs ys ≡ breaks 15 (i ∷ field ∷ [])
  unfolding agree
  agree-first h number = rw (ne_eqb _ _ h)

  pub agree-second : {x : List ℕ} → get_or xs k [] ≡ x → length x ≡ width → (length (get_or ys k []) ≡ width → ⊥) → (number : ℕ) → agree i k width field number xs ys ≡ breaks 15 (i ∷ (field + 1) ∷ [])
  unfolding agree
  agree-second p l h number = rw (p, eq-eqb _ _ l, ne_eqb _ _ h)

  pub agree-both : {x y : List ℕ} → get_or xs k [] ≡ x → length x ≡ width → get_or ys k [] ≡ y → length y ≡ width → (number : ℕ) → agree i k width field number xs ys ≡ check (same x y) number (i ∷ [])
  unfolding agree
  agree-both p l q m number = rw (p, eq-eqb _ _ l, q, eq-eqb _ _ m)

-- ---- two items that agree, from where they stand

-- item k of the covenant that stands at a place is those bytes: none where it has no such item
abbrev Item : List ℕ → ℕ → ℕ → Span → Type 0
Item s at k part = (part.start + part.len ≤ length s) × (get_or (items_from s at) k [] ≡ bytes_in s (part.start, part.len))

item-placed : (s : List ℕ) (at k : ℕ) → length s < 2 ^ 64 → Item s at k (placed (seek_at s at k))
item-placed s at k big = go (seek_at s at k) refl
  where
    go : (m : Option (ℕ × ℕ)) → seek_at s at k ≡ m → Item s at k (placed m)
    go (some part) e = (item-inside s at k big e, item-there s at k e)
    go none e = (omega arith, get_or-eq_default (items_from s at) [] (item-few s at k e))

-- what the places of two items say of their agreeing, whatever the number for unequal ones
abbrev Pairs : List ℕ → List ℕ → ℕ → ℕ → ℕ → ℕ → ℕ → ℕ → Result Pair ℕ → Type 0
Pairs coins tx i spent made k width field (Ok p) =
    (p.width ≡ width) × (p.spent + width ≤ length coins) × (p.created + width ≤ length tx)
    × ((number : ℕ) → agree i k width field number (items_from coins spent) (items_from tx made) ≡ check (same (bytes_in coins (p.spent, width)) (bytes_in tx (p.created, width))) number (i ∷ []))
Pairs coins tx i spent made k width field (Err f) =
    (number : ℕ) → agree i k width field number (items_from coins spent) (items_from tx made) ≡ breaks 15 (i ∷ f ∷ [])

-- the widths of items 0 and 1
abbrev width_of : ℕ → ℕ
width_of k = pick (eqb k 0) 32 4

module _ (coins tx : List ℕ) (i spent made : ℕ) where
  sized-pairs : (k width field : ℕ) (a b : Span) → Item coins spent k a → Item tx made k b → Pairs coins tx i spent made k width field (sized_pair width field a b)
  sized-pairs k width field a b p q = go (eqb a.len width) (eqb b.len width) refl refl
    where
      spent-long : length (get_or (items_from coins spent) k []) ≡ a.len
      spent-long = ap length p.1 ∙ part-long coins a.start a.len p.0

      made-long : length (get_or (items_from tx made) k []) ≡ b.len
      made-long = ap length q.1 ∙ part-long tx b.start b.len q.0

      spent-is : eqb a.len width ≡ true → get_or (items_from coins spent) k [] ≡ bytes_in coins (a.start, width)
      spent-is e = p.1 ∙ ap (λ (n : ℕ). bytes_in coins (a.start, n)) (eqb-true a.len width e)

      made-is : eqb b.len width ≡ true → get_or (items_from tx made) k [] ≡ bytes_in tx (b.start, width)
      made-is e = q.1 ∙ ap (λ (n : ℕ). bytes_in tx (b.start, n)) (eqb-true b.len width e)

      go : (x y : Bool) → eqb a.len width ≡ x → eqb b.len width ≡ y
          → Pairs coins tx i spent made k width field (pick x (pick y (Ok (record { spent = a.start; created = b.start; width = width })) (Err (field + 1))) (Err field))
      go false y e f = agree-first i k width field _ _ (λ n. eqb-false a.len width e (sym spent-long ∙ n))
      go true false e f =
          let n : a.len ≡ width = eqb-true a.len width e in
          agree-second i k width field _ _ (spent-is e) (part-long coins a.start width (omega (arith, p.0))) (λ n. eqb-false b.len width f (sym made-long ∙ n))
      go true true e f =
          let n : a.len ≡ width = eqb-true a.len width e in
          let m : b.len ≡ width = eqb-true b.len width f in
          let u : a.start + width ≤ length coins = omega (arith, p.0) in
          let v : b.start + width ≤ length tx = omega (arith, q.0) in
          (refl, u, v, agree-both i k width field _ _ (spent-is e) (part-long coins a.start width u) (made-is f) (part-long tx b.start width v))

  items-pairs : (length coins < 2 ^ 64) × (length tx < 2 ^ 64) → (k : ℕ) → k < 2 → Pairs coins tx i spent made k (width_of k) (k * 2 + 1) (items_pair (items_at coins spent) (items_at tx made) k)
  items-pairs big zero h = sized-pairs 0 32 1 _ _ (item-placed coins spent 0 big.0) (item-placed tx made 0 big.1)
  items-pairs big (suc zero) h = sized-pairs 1 4 3 _ _ (item-placed coins spent 1 big.0) (item-placed tx made 1 big.1)
  items-pairs big (suc (suc k)) h = absurd (omega arith)

-- ---- name and start: what the items from the k-th on have to say

module _ (i : ℕ) (xs ys : List (List ℕ)) where
  pub left_end : (k : ℕ) → 2 ≤ k → Left i xs ys k ≡ passes true
  left_end zero h = absurd (omega arith)
  left_end (suc zero) h = absurd (omega arith)
  left_end (suc (suc k)) h = refl

  -- 16 for items 0, 17 for items 1
  unequal-number : (k : ℕ) → k < 2 → breaks (number_of (pick (eqb k 0) (Refusal.NameHashMismatch i) (Refusal.StartHeightMismatch i))) (carried (pick (eqb k 0) (Refusal.NameHashMismatch i) (Refusal.StartHeightMismatch i))) ≡ breaks (k + 16) (i ∷ [])
  unequal-number zero h = refl
  unequal-number (suc zero) h = refl
  unequal-number (suc (suc k)) h = absurd (omega arith)

  module _ (k : ℕ) {width : ℕ} (wide : width ≡ width_of k) (few : k < 2) where
    left-next : (k : ℕ) → k < 2 → agree i k (width_of k) (k * 2 + 1) (k + 16) xs ys ≡ passes true → Left i xs ys k ≡ Left i xs ys (k + 1)
    unfolding name_and_start
    left-next zero h e = rw e
    left-next (suc zero) h e = e
    left-next (suc (suc k)) h e = absurd (omega arith)

    left-stop : (k : ℕ) {n : ℕ} {vs : List ℕ} → k < 2 → agree i k (width_of k) (k * 2 + 1) (k + 16) xs ys ≡ breaks n vs → Left i xs ys k ≡ breaks n vs
    unfolding name_and_start
    left-stop zero h e = rw e
    left-stop (suc zero) h e = e
    left-stop (suc (suc k)) h e = absurd (omega arith)

    left-broken : {n : ℕ} {vs : List ℕ} → ((number : ℕ) → agree i k width (k * 2 + 1) number xs ys ≡ breaks n vs) → Left i xs ys k ≡ breaks n vs
    left-broken e = left-stop k few (ap (λ w. agree i k w (k * 2 + 1) (k + 16) xs ys) (sym wide) ∙ e (k + 16))

    left-equal : {t : Bool} → ((number : ℕ) → agree i k width (k * 2 + 1) number xs ys ≡ check t number (i ∷ [])) → t ≡ true → Left i xs ys k ≡ Left i xs ys (k + 1)
    left-equal e f = left-next k few (ap (λ w. agree i k w (k * 2 + 1) (k + 16) xs ys) (sym wide) ∙ e (k + 16) ∙ ap (λ t. check t (k + 16) (i ∷ [])) f)

    left-unequal : {t : Bool} → ((number : ℕ) → agree i k width (k * 2 + 1) number xs ys ≡ check t number (i ∷ [])) → t ≡ false → Left i xs ys k ≡ breaks (k + 16) (i ∷ [])
    left-unequal e f = left-stop k few (ap (λ w. agree i k w (k * 2 + 1) (k + 16) xs ys) (sym wide) ∙ e (k + 16) ∙ ap (λ t. check t (k + 16) (i ∷ [])) f)

-- .. from where the items stand: x and y are those of both covenants, and pair was made of them
module _ (coins tx : List ℕ) (big : (length coins < 2 ^ 64) × (length tx < 2 ^ 64)) (i spent made k : ℕ) (few : k < 2) {x y : Items} (u : x ≡ items_at coins spent) (v : y ≡ items_at tx made) {pair : Result Pair ℕ} (is : pair ≡ items_pair x y k) where
  abbrev Rests : ℕ → Step
  Rests = Left i (items_from coins spent) (items_from tx made)

  said : {pair' : Result Pair ℕ} → pair ≡ pair' → Pairs coins tx i spent made k (width_of k) (k * 2 + 1) pair'
  said e =
      subst (Pairs coins tx i spent made k (width_of k) (k * 2 + 1)) (sym (ap₂ (λ (a b : Items). items_pair a b k) u v) ∙ sym is ∙ e)
      (items-pairs coins tx i spent made big k few)

  pub item-malformed : {field : ℕ} → pair ≡ Err field → Rests k ≡ breaks 15 (i ∷ field ∷ [])
  item-malformed e = left-broken i (items_from coins spent) (items_from tx made) k refl few (said e)

  module _ {p : Pair} (e : pair ≡ Ok p) where
    pub items-fit : (p.spent + p.width ≤ length coins) × (p.created + p.width ≤ length tx)
    items-fit = let q = said e in (omega (arith, q.0, q.1), omega (arith, q.0, q.2))

    pub items-unequal : {r : Refusal} → r ≡ pick (eqb k 0) (Refusal.NameHashMismatch i) (Refusal.StartHeightMismatch i)
        → same (bytes_in coins (p.spent, p.width)) (bytes_in tx (p.created, p.width)) ≡ false → Rests k ≡ breaks (number_of r) (carried r)
    items-unequal {r} n f =
        let q = said e in
        left-unequal i (items_from coins spent) (items_from tx made) k refl few q.3 (rw q.0 at f) ∙ sym (ap (λ (r : Refusal). breaks (number_of r) (carried r)) n ∙ unequal-number i (items_from coins spent) (items_from tx made) k few)

    pub items-equal : same (bytes_in coins (p.spent, p.width)) (bytes_in tx (p.created, p.width)) ≡ true → Rests k ≡ Rests (k + 1)
    items-equal f = let q = said e in left-equal i (items_from coins spent) (items_from tx made) k refl few q.3 (rw q.0 at f)

-- where they agree, nothing is left to say but that the input passes
agree-passes : (i k width field number : ℕ) (xs ys : List (List ℕ)) → and_then (agree i k width field number xs ys) (passes true) ≡ agree i k width field number xs ys
unfolding agree
agree-passes i k width field number xs ys = go (eqb (length (get_or xs k [])) width) (eqb (length (get_or ys k [])) width) (same (get_or xs k []) (get_or ys k []))
  where
    go : (a b c : Bool)
        → and_then (pick a (pick b (check c number (i ∷ [])) (breaks 15 (i ∷ (field + 1) ∷ []))) (breaks 15 (i ∷ field ∷ []))) (passes true)
        ≡ pick a (pick b (check c number (i ∷ [])) (breaks 15 (i ∷ (field + 1) ∷ []))) (breaks 15 (i ∷ field ∷ []))
    go false b c = refl
    go true false c = refl
    go true true false = refl
    go true true true = refl

pub names-pass : (i : ℕ) (xs ys : List (List ℕ)) → and_then (name_and_start i xs ys) (passes true) ≡ name_and_start i xs ys
unfolding name_and_start
names-pass i xs ys = go (agree i 0 32 1 16 xs ys)
  where
    go : (s : Step) → and_then (and_then s (agree i 1 4 3 17 xs ys)) (passes true) ≡ and_then s (agree i 1 4 3 17 xs ys)
    go (passes n) = agree-passes i 1 4 3 17 xs ys
    go (breaks k vs) = refl

-- ---- two parts of one width, byte by byte

-- after j bytes that agree: what is left tells of the whole
pub record Compared (s t : List ℕ) (a b width j : ℕ) : Type 0 where
  pub bound : j ≤ width
  pub fits : (a + width ≤ length s) × (b + width ≤ length t)
  pub rests : same (bytes_in s (a + j, width - j)) (bytes_in t (b + j, width - j)) ≡ same (bytes_in s (a, width)) (bytes_in t (b, width))

pub none-compared : (s t : List ℕ) {a b width : ℕ} → (a + width ≤ length s) × (b + width ≤ length t) → Compared s t a b width 0
none-compared s t {a} {b} {width} fits =
    let z : width - 0 ≡ width = omega arith in
    let y : a + 0 ≡ a = omega arith in
    let x : b + 0 ≡ b = omega arith in
    record { bound = omega arith; fits = fits; rests = rw (z, y, x) }

module _ (s t : List ℕ) {a b width j : ℕ} (r : Compared s t a b width j) where
  pub byte-same : j < width → get_or s (a + j) 0 ≡ get_or t (b + j) 0 → Compared s t a b width (j + 1)
  byte-same h e = record {
    bound = omega arith;
    fits = r.fits;
    rests =
        sym
        (same_more s t {a = a + j} {a' = a + (j + 1)} {b = b + j} {b' = b + (j + 1)} {n = width - (j + 1)} {n' = width - j}
        (omega (arith, r.fits)) (omega (arith, r.fits)) (omega arith) (omega arith) (omega arith) e)
        ∙ r.rests;
  }

  pub byte-differs : j < width → (get_or s (a + j) 0 ≡ get_or t (b + j) 0 → ⊥) → same (bytes_in s (a, width)) (bytes_in t (b, width)) ≡ false
  byte-differs h e =
      sym r.rests
      ∙ same_not s t {a = a + j} {b = b + j} {n = width - (j + 1)} {n' = width - j} (omega (arith, r.fits)) (omega (arith, r.fits)) (omega arith) e

  pub bytes_same : width ≤ j → same (bytes_in s (a, width)) (bytes_in t (b, width)) ≡ true
  bytes_same h = sym r.rests ∙ same_none s t (a + j) (b + j) {n = width - j} (omega arith)
