-- The checks of the writer, item by item: what is left gives the whole; and what it means that they pass.
use mathlib.Core.Path.{◌≡◌, refl, ap, sym, ◌∙◌}
use Prim.Native.Nat.{ℕ, zero, suc, ◌+◌, ◌≤◌, ◌<◌}
use native.Mathlib.Omega.{arith}
use mathlib.Core.List.{List, [], ◌∷◌}
use lib.ListN.{length, take, drop, get_or, length-append, length-map}
use mathlib.Core.Bool.{Bool, true, false, ◌&&◌}
use lib.Dec.{ltb, leb}
use borrow.Author.Tests.{le-ltb, lt-ltb, ltb-true, ltb-false, le-leb, lt-leb, leb-true}
use Rattle.words.specs.Buffers.{pick}
use Rattle.words.proofs.Cases.{by_order}
use Rattle.words.proofs.Sameness.{and-true}
use Rattle.words.proofs.Le.{part-long}
use Rattle.refusal.proofs.Outcomes.{never_both, next-ok, checked}
use Rattle.refusal.specs.Outcome.{Wrote, wrote, refused, filled}
use Rattle.encoding.specs.Wire.{compact, compact_size, varbytes}
use Rattle.encoding.specs.Joined.{joined}
use Rattle.encoding.proofs.Compact.{length-compact, length-varbytes, compact-size-most}
use Rattle.covenants.specs.Covenant.{bytes_in, contents}
use Rattle.covenants.specs.Written.{covenant_bytes, items_size, covenant_size, parts, Held, held_from, size_from, size_answer, directory_bytes, encode_answer, encode_content, entry_held, table_held, table_size, table_answer, filled_from, table_content}
use Rattle.covenants.specs.Workers.{There}
use Rattle.covenants.specs.Theorems.{Short}

-- ---- the directory

-- one entry, and then the others
pub parts_more : (starts lens : List ℕ) (i : ℕ) {i' n n' : ℕ} → i' ≡ suc i → n' ≡ suc n → parts starts lens i n' ≡ (get_or starts i 0, get_or lens i 0) ∷ parts starts lens i' n
unfolding parts
parts_more starts lens i p q = rw (p, q)

pub parts_none : (starts lens : List ℕ) (i : ℕ) {n : ℕ} → n ≡ 0 → parts starts lens i n ≡ []
unfolding parts
parts_none starts lens i p = rw p

pub length-parts : (starts lens : List ℕ) (i n : ℕ) → length (parts starts lens i n) ≡ n
unfolding parts
length-parts starts lens i zero = refl
length-parts starts lens i (suc n) = ap suc (length-parts starts lens (suc i) n)

-- ---- each check, item by item

module _ (starts lens : List ℕ) (size first i : ℕ) {n n' : ℕ} (p : n' ≡ suc n) where
  pub held-bad : entry_held size starts lens (first + i) ≡ false → refused 30 (i ∷ []) ≡ table_held size starts lens first i n'
  unfolding table_held
  held-bad h = rw (p, h)

  pub held_more : {i' : ℕ} → i' ≡ suc i → entry_held size starts lens (first + i) ≡ true → table_held size starts lens first i n' ≡ table_held size starts lens first i' n
  unfolding table_held
  held_more q h = rw (p, h, q)

pub held_none : (starts lens : List ℕ) (size first i : ℕ) {n : ℕ} → n ≡ 0 → wrote 0 ≡ table_held size starts lens first i n
unfolding table_held
held_none starts lens size first i p = rw p

module _ (starts lens : List ℕ) (used i : ℕ) {n n' : ℕ} (p : n' ≡ suc n) where
  pub size-long : 1000000 < get_or lens i 0 → refused 5 (get_or lens i 0 ∷ 1000000 ∷ []) ≡ size_from used (parts starts lens i n')
  unfolding size_from
  size-long h = rw (parts_more starts lens i {i' = suc i} refl p, lt-ltb _ _ h)

  module _ (small : get_or lens i 0 ≤ 1000000) {k : ℕ} (e : k ≡ compact_size (get_or lens i 0)) where
    pub size-over : 1000009 < used + k + get_or lens i 0 → refused 5 ((used + k + get_or lens i 0) ∷ 1000009 ∷ []) ≡ size_from used (parts starts lens i n')
    unfolding size_from
    size-over h = rw (parts_more starts lens i {i' = suc i} refl p, le-ltb _ _ small, ← e, lt-ltb _ _ h)

    pub size-more : {i' : ℕ} → i' ≡ suc i → used + k + get_or lens i 0 ≤ 1000009 → size_from used (parts starts lens i n') ≡ size_from (used + k + get_or lens i 0) (parts starts lens i' n)
    unfolding size_from
    size-more q h = rw (parts_more starts lens i q p, le-ltb _ _ small, ← e, le-ltb _ _ h)

pub size_none : (starts lens : List ℕ) (used i : ℕ) {n : ℕ} → n ≡ 0 → size_from used (parts starts lens i n) ≡ wrote used
unfolding size_from
size_none starts lens used i p = rw (parts_none starts lens i p)

-- ---- what it means that they pass

-- an item takes its length and its bytes
pub item-long : (source : List ℕ) (from n : ℕ) → from + n ≤ length source → length (varbytes (bytes_in source (from, n))) ≡ compact_size n + n
item-long source from n fits =
    let e = part-long source from n fits in
    length-varbytes (take n (drop from source)) refl ∙ rw e

-- the items are held
pub held_all : (size i : ℕ) (ps : List (ℕ × ℕ)) {m : ℕ} → held_from size i ps ≡ wrote m → Held size ps
unfolding held_from
held_all size i [] e = tt
held_all size i (p ∷ ps) e =
    let w = checked (ltb size (p.0 + p.1)) _ _ _ e in
    (ltb-false size (p.0 + p.1) w.0, held_all size (suc i) ps w.1)

-- an entry that is held
entry-means : (size : ℕ) (starts lens : List ℕ) (entry : ℕ) → entry_held size starts lens entry ≡ true
    → (entry < length starts) × (entry < length lens) × (get_or starts entry 0 + get_or lens entry 0 ≤ size)
unfolding entry_held
entry-means size starts lens entry e =
    let one = and-true (ltb entry (length starts)) (ltb entry (length lens) && leb (get_or starts entry 0 + get_or lens entry 0) size) e in
    let two = and-true (ltb entry (length lens)) (leb (get_or starts entry 0 + get_or lens entry 0) size) one.1 in
    (ltb-true _ _ one.0, ltb-true _ _ two.0, leb-true _ _ two.1)

there-first : (xs : List ℕ) (first n : ℕ) → first < length xs → There xs (suc first) n → There xs first (suc n)
there-first xs first n h t zero k = omega arith
there-first xs first n h t (suc i) k = omega (arith, t i (omega arith))

still : (t : Bool) (w : Wrote) (k : ℕ) (vs : List ℕ) {n : ℕ} → pick t w (refused k vs) ≡ wrote n → (t ≡ true) × (w ≡ wrote n)
still true w k vs e = (refl, e)
still false w k vs e = absurd (never_both e refl)

-- the entries of a table are there, and their items are held
table-all : (size : ℕ) (starts lens : List ℕ) (first i n : ℕ) {m : ℕ} → table_held size starts lens first i n ≡ wrote m
    → There starts (first + i) n × There lens (first + i) n × Held size (parts starts lens (first + i) n)
unfolding table_held parts
table-all size starts lens first i zero e = (λ j h. absurd (omega arith), λ j h. absurd (omega arith), tt)
table-all size starts lens first i (suc n) e =
    let w = still (entry_held size starts lens (first + i)) _ _ _ e in
    let one = entry-means size starts lens (first + i) w.0 in
    let k : first + suc i ≡ suc (first + i) = omega arith in
    let ih = table-all size starts lens first (suc i) n w.1 in
    (there-first starts (first + i) n one.0 (rw k at ih.0), there-first lens (first + i) n one.1 (rw k at ih.1), (one.2, rw k at ih.2))

-- how many bytes are written
pub items-long : (items : List (List ℕ)) → length (joined varbytes items) ≡ items_size items
unfolding joined items_size
items-long [] = refl
items-long (item ∷ items) =
    length-append (varbytes item) (joined varbytes items)
    ∙ omega (arith, length-varbytes item {n = compact_size (length item) + length item} refl, items-long items)

pub covenant-long : (kind : ℕ) (items : List (List ℕ)) → length (covenant_bytes kind items) ≡ covenant_size items
unfolding covenant_bytes covenant_size
covenant-long kind items =
    let n = length items in
    omega (arith, length-append (compact n) (joined varbytes items), length-compact n, items-long items)

-- the running size ends with theirs
size-all : (source : List ℕ) (used : ℕ) (ps : List (ℕ × ℕ)) {m : ℕ} → Held (length source) ps → size_from used ps ≡ wrote m → m ≡ used + items_size (contents source ps)
unfolding size_from items_size
size-all source used [] {m} h e = let z : used ≡ m = cc in omega arith
size-all source used (p ∷ ps) {m} h e =
    let x = p.1 in
    let one = checked (ltb 1000000 x) _ _ _ e in
    let two = checked (ltb 1000009 (used + compact_size x + x)) _ _ _ one.1 in
    let long = part-long source p.0 x h.0 in
    let ih = size-all source (used + compact_size x + x) ps h.1 two.1 in
    rw long (omega arith)

-- each is short, and the running size has a bound
short-all : (source : List ℕ) (used : ℕ) (ps : List (ℕ × ℕ)) {m : ℕ} → used ≤ 1000009 → Held (length source) ps → size_from used ps ≡ wrote m → Short (contents source ps) × (m ≤ 1000009)
unfolding size_from
short-all source used [] {m} u h e = let z : used ≡ m = cc in (tt, omega arith)
short-all source used (p ∷ ps) u h e =
    let x = p.1 in
    let one = checked (ltb 1000000 x) _ _ _ e in
    let two = checked (ltb 1000009 (used + compact_size x + x)) _ _ _ one.1 in
    let long = part-long source p.0 x h.0 in
    let ih = short-all source (used + compact_size x + x) ps (ltb-false 1000009 (used + compact_size x + x) two.0) h.1 two.1 in
    ((rw long (ltb-false 1000000 x one.0), ih.0), ih.1)

-- all checks of the writer passed, of items that stand in these places
pub record Passed (source : List ℕ) (ps : List (ℕ × ℕ)) (count n : ℕ) : Type 0 where
  pub few : count ≤ 1000
  pub held : Held (length source) ps
  pub size : (kind : ℕ) → length (covenant_bytes kind (contents source ps)) ≡ n
  pub short : Short (contents source ps)
  pub most : n ≤ 1000009

sizes-passed : (source : List ℕ) (ps : List (ℕ × ℕ)) (count : ℕ) {n : ℕ} → length ps ≡ count → count ≤ 1000 → Held (length source) ps → size_from (1 + compact_size count) ps ≡ wrote n → Passed source ps count n
unfolding covenant_size
sizes-passed source ps count long few held e =
    let shorts = short-all source (1 + compact_size count) ps (omega (arith, compact-size-most count)) held e in
    let many : length (contents source ps) ≡ count = length-map ps (bytes_in source) ∙ long in
    record {
      few = few;
      held = held;
      size = λ kind. covenant-long kind (contents source ps) ∙ rw many (sym (size-all source (1 + compact_size count) ps held e));
      short = shorts.0;
      most = shorts.1;
    }

pub checks-passed : (source starts lens : List ℕ) (count : ℕ) {n : ℕ} → size_answer source starts lens count ≡ wrote n → Passed source (parts starts lens 0 count) count n
unfolding size_answer
checks-passed source starts lens count e =
    let ps : List (ℕ × ℕ) = parts starts lens 0 count in
    let one = checked (ltb 1000 count) _ _ _ e in
    let two = next-ok (held_from (length source) 0 ps) one.1 in
    sizes-passed source ps count (length-parts starts lens 0 count) (ltb-false 1000 count one.0) (held_all (length source) 0 ps two.1) two.2

-- the entries of a table are there
pub there-held : (size : ℕ) (starts lens : List ℕ) (first count : ℕ) {m : ℕ} → table_held size starts lens first 0 count ≡ wrote m
    → There starts first count × There lens first count × Held size (parts starts lens first count)
there-held size starts lens first count e = let z : first + 0 ≡ first = omega arith in rw z at (table-all size starts lens first 0 count e)

pub table-passed : (source starts lens : List ℕ) (first count : ℕ) {n : ℕ} → table_size source starts lens first count ≡ wrote n
    → Passed source (parts starts lens first count) count n × There starts first count × There lens first count
unfolding table_size
table-passed source starts lens first count e =
    let one = checked (ltb 1000 count) _ _ _ e in
    let two = next-ok (table_held (length source) starts lens first 0 count) one.1 in
    let there = there-held (length source) starts lens first count two.1 in
    (sizes-passed source (parts starts lens first count) count (length-parts starts lens first count) (ltb-false 1000 count one.0) there.2 two.2, there.0, there.1)

-- ---- a directory is a table of its own

table-held : (size : ℕ) (starts lens : List ℕ) (i n : ℕ) → i + n ≤ length starts → i + n ≤ length lens → table_held size starts lens 0 i n ≡ held_from size i (parts starts lens i n)
unfolding table_held held_from parts entry_held
table-held size starts lens i zero a b = refl
table-held size starts lens i (suc n) a b =
    let z : 0 + i ≡ i = omega arith in
    by_order size (get_or starts i 0 + get_or lens i 0)
    (λ h. rw (z, lt-ltb i (length starts) (omega arith), lt-ltb i (length lens) (omega arith), lt-leb _ _ h, lt-ltb _ _ h))
    (λ h.
    rw (z, lt-ltb i (length starts) (omega arith), lt-ltb i (length lens) (omega arith), le-leb _ _ h, le-ltb _ _ h)
    (table-held size starts lens (suc i) n (omega arith) (omega arith)))

module _ (source starts lens : List ℕ) (count : ℕ) (p : length starts ≡ 1000) (q : length lens ≡ 1000) where
  pub size_is : table_size source starts lens 0 count ≡ size_answer source starts lens count
  unfolding table_size size_answer
  size_is =
      by_order 1000 count
      (λ h. rw (lt-ltb 1000 count h))
      (λ h. rw (table-held (length source) starts lens 0 count (omega arith) (omega arith)))

  pub answer-is : (kind : ℕ) (d : List ℕ) → table_answer 0 kind source starts lens 0 count d ≡ encode_answer kind source starts lens count d
  unfolding table_answer encode_answer
  answer-is kind d = rw size_is

  pub content-is : (kind : ℕ) (d : List ℕ) → table_content 0 kind source starts lens 0 count d ≡ encode_content kind source starts lens count d
  unfolding table_content encode_content
  content-is kind d = rw (answer-is kind d) (go (encode_answer kind source starts lens count d))
    where
      go : (w : Wrote) → filled_from w 0 (directory_bytes kind source starts lens count) d ≡ filled w (directory_bytes kind source starts lens count) d
      go (wrote n) = refl
      go (refused k vs) = refl
