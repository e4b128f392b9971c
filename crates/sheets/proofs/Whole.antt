-- A whole sheet, from what was passed; and what a sheet that was read tells.
use mathlib.Core.Path.{◌≡◌, refl, ap, ap₂, sym, ◌∙◌}
use Prim.Native.Nat.{ℕ, ◌/◌, ◌%◌, ◌^◌, ◌≤◌, ◌<◌}
use native.Mathlib.Omega.{arith}
use mathlib.Core.List.{List, [], ◌∷◌}
use mathlib.Core.Bool.{Bool, true, false}
use lib.ListN.{length}
use lib.Dec.{ltb, eqb}
use borrow.Author.Tests.{ltb-false, eqb-true}
use Rattle.words.specs.Words.{be}
use Rattle.refusal.specs.Outcome.{Stand, Outcome, ok, err, then, many_at, past}
use Rattle.refusal.proofs.Outcomes.{then_ok, passed, past-ok, past-err, past_next, past-cut}
use Rattle.refusal.proofs.Many.{many-long}
use Rattle.words.specs.Buffers.{pick}
use Rattle.encoding.specs.Wire.{slice_at, finish_at}
use Rattle.encoding.proofs.Slice as slice
use Rattle.covenants.specs.Covenant.{bytes_in}
use Rattle.primitives.specs.declared.Outpoint.{Outpoint}
use Rattle.sheets.specs.Sheet.{Head, field, head_fields, sheet_head_at, input_at, place_at, coin_at, sheet_at, ledger_at, transaction_at, coins_at, Judged, whole, refused, judged, transaction_counts, coin_counts, both, pair_counts}
use Rattle.sheets.specs.Workers.{opened_at}
use Rattle.sheets.specs.declared.Place.{Place}
use Rattle.sheets.proofs.Reading.{field-right}

module _ (s : List ℕ) (counts : ℕ × ℕ) (at : ℕ) where
  pub ledger-next : {next : ℕ} → past (many_at (input_at s) counts.0 at) ≡ ok tt next → past (ledger_at s counts at) ≡ past (many_at (place_at 0 s) counts.1 next)
  unfolding ledger_at
  ledger-next e = past_next (many_at (input_at s) counts.0 at) (many_at (place_at 0 s) counts.1) (λ inputs outputs. (inputs, outputs)) e

  pub ledger-cut : {k : ℕ} {vs : List ℕ} {p : Stand} → past (many_at (input_at s) counts.0 at) ≡ err k vs p → past (ledger_at s counts at) ≡ err k vs p
  unfolding ledger_at
  ledger-cut e = past-cut (many_at (input_at s) counts.0 at) (many_at (place_at 0 s) counts.1) (λ inputs outputs. (inputs, outputs)) e

  -- a ledger that was read: both lists, and where the outputs begin
  pub record Ledger (t : List Outpoint × List Place) (end : ℕ) : Type 0 where
    pub middle : ℕ
    pub inputs : many_at (input_at s) counts.0 at ≡ ok t.0 middle
    pub outputs : many_at (place_at 0 s) counts.1 middle ≡ ok t.1 end

  pub ledger-read : {t : List Outpoint × List Place} {end : ℕ} → ledger_at s counts at ≡ ok t end → Ledger t end
  unfolding ledger_at
  ledger-read {t} {end} e =
      let a = then_ok (many_at (input_at s) counts.0 at) e in
      let b = then_ok (many_at (place_at 0 s) counts.1 a.1) a.3 in
      let pair : ◌≡◌ {A = List Outpoint × List Place} (a.0, b.0) t = cc in
      let ins : a.0 ≡ t.0 = ap (λ (x : List Outpoint × List Place). x.0) pair in
      let outs : b.0 ≡ t.1 = ap (λ (x : List Outpoint × List Place). x.1) pair in
      let q : b.1 ≡ end = cc in
      record { middle = a.1; inputs = a.2 ∙ ap (λ x. ok x a.1) ins; outputs = b.2 ∙ ap₂ ok outs q }

  pub ledger-long : {t : List Outpoint × List Place} {end : ℕ} → ledger_at s counts at ≡ ok t end → (length t.0, length t.1) ≡ counts
  ledger-long {t} {end} e =
      let l = ledger-read e in
      let a : length t.0 ≡ counts.0 = many-long (input_at s) counts.0 at l.inputs in
      let b : length t.1 ≡ counts.1 = many-long (place_at 0 s) counts.1 l.middle l.outputs in
      rw (a, b)

-- ---- a sheet judged: its length and its head, what stands after them, and nothing left

module _ {A : Type 0} (side : ℕ) (s : List ℕ) (rest : Head → ℕ → Outcome A) (f : A → ℕ × ℕ) where
  abbrev Said : Judged (ℕ × ℕ)
  Said = judged side f (sheet_at side s rest)

  abbrev Rest : Head → ℕ → Outcome A
  Rest head next = then (rest head next) (λ a end. then (finish_at s end) (λ nothing end. ok a end))

  sheet-opened : sheet_at side s rest ≡ then (opened_at side s) Rest
  unfolding sheet_at opened_at
  sheet-opened = go (ltb 16777216 (length s))
    where
      go : (long : Bool) → pick long (err 28 (side ∷ length s ∷ []) 0) (then (sheet_head_at side s) Rest) ≡ then (pick long (err 28 (side ∷ length s ∷ []) 0) (sheet_head_at side s)) Rest
      go true = refl
      go false = refl

  pub sheet-shut : {k : ℕ} {vs : List ℕ} {p : Stand} → opened_at side s ≡ err k vs p → refused k vs side ≡ Said
  sheet-shut e = rw (sheet-opened, e)

  module _ {said : Head} {next : ℕ} (head : opened_at side s ≡ ok said next) where
    pub sheet-stopped : {k : ℕ} {vs : List ℕ} {p : Stand} → past (rest said next) ≡ err k vs p → refused k vs side ≡ Said
    sheet-stopped e = rw (sheet-opened, head, past-err (rest said next) e)

    pub sheet-left : {u : Unit} {end k : ℕ} {vs : List ℕ} {p : Stand} → past (rest said next) ≡ ok u end → finish_at s end ≡ err k vs p → refused k vs side ≡ Said
    sheet-left e g = let r = past-ok (rest said next) e in rw (sheet-opened, head, r.1, g)

    pub sheet-whole : {v : ℕ × ℕ} {u w : Unit} {end q : ℕ} → ((a : A) (p : ℕ) → rest said next ≡ ok a p → f a ≡ v) → past (rest said next) ≡ ok u end → finish_at s end ≡ ok w q → whole v ≡ Said
    sheet-whole h e g = let r = past-ok (rest said next) e in rw (sheet-opened, head, r.1, g, h r.0 _ r.1)

-- ---- a sheet that was read

-- a head is 4 bytes, and its version is 1
pub head_read : (side : ℕ) (s : List ℕ) {said : Head} {next : ℕ} → length s < 2 ^ 64 → sheet_head_at side s ≡ ok said next → (next ≡ 4) × (said.version ≡ 1)
unfolding sheet_head_at head_fields
head_read side s {said} {next} big e =
    let w = then_ok (slice_at 4 s 0) e in
    let part = slice.read 4 s 0 big w.2 in
    let n = be (bytes_in s (0, 4)) in
    let good : Outcome Head = ok (record { version = n / 2 ^ 28; counts = (n / 2 ^ 16 % 1024, n / 2 ^ 6 % 1024) }) w.1 in
    let spare : Outcome Head = field (eqb (n % 64) 0) side 3 good in
    let outputs : Outcome Head = field (pick (eqb side 1) (eqb (n / 2 ^ 6 % 1024) 0) true) side 2 spare in
    let a = field-right (eqb (n / 2 ^ 28) 1) side 0 (field (eqb (n / 2 ^ 26 % 4) side) side 0 outputs) w.3 in
    let b = field-right (eqb (n / 2 ^ 26 % 4) side) side 0 outputs a.1 in
    let c = field-right (pick (eqb side 1) (eqb (n / 2 ^ 6 % 1024) 0) true) side 2 spare b.1 in
    let d = field-right (eqb (n % 64) 0) side 3 good c.1 in
    let told = d.1 in
    let end : w.1 ≡ next = cc in
    let same : record { version = n / 2 ^ 28; counts = (n / 2 ^ 16 % 1024, n / 2 ^ 6 % 1024) } ≡ said = cc in
    (omega (arith, part.ends), sym (ap (λ (h : Head). h.version) same) ∙ eqb-true (n / 2 ^ 28) 1 a.0)

pub record SheetIs {A : Type 0} (side : ℕ) (s : List ℕ) (rest : Head → ℕ → Outcome A) (a : A) : Type 0 where
  pub head : Head
  pub version : head.version ≡ 1
  pub end : ℕ
  pub small : length s ≤ 16777216
  pub body : rest head 4 ≡ ok a end

pub sheet-read : {A : Type 0} (side : ℕ) (s : List ℕ) (rest : Head → ℕ → Outcome A) {a : A} {q : ℕ} → sheet_at side s rest ≡ ok a q → SheetIs side s rest a
unfolding sheet_at
sheet-read side s rest {a} {q} e =
    let w = passed (ltb 16777216 (length s)) _ _ _ _ e in
    let few = ltb-false 16777216 (length s) w.0 in
    let head = then_ok (sheet_head_at side s) w.1 in
    let four = head_read side s (omega arith) head.2 in
    let behind = then_ok (rest head.0 head.1) head.3 in
    let last = then_ok (finish_at s behind.1) behind.3 in
    let told = last.3 in
    let same : behind.0 ≡ a = cc in
    record { head = head.0; version = four.1; end = behind.1; small = omega arith; body = ap (rest head.0) (sym four.0) ∙ behind.2 ∙ ap (λ x. ok x behind.1) same }

-- what a judgement tells of the read
pub judged-whole : {A B : Type 0} (side : ℕ) (f : A → B) (o : Outcome A) {b : B} → judged side f o ≡ whole b → (a : A) × (end : ℕ) × (o ≡ ok a end) × (f a ≡ b)
judged-whole side f (ok a end) e = (a, end, refl, cc)
judged-whole side f (err k vs p) e = absurd cc

pub judged-refused : {A B : Type 0} (side : ℕ) (f : A → B) (o : Outcome A) {k : ℕ} {vs : List ℕ} {d : ℕ} → judged side f o ≡ refused k vs d → (p : Stand) × (o ≡ err k vs p)
judged-refused side f (ok a end) e = absurd cc
judged-refused side f (err k vs p) {k = k'} {vs = vs'} e =
    let a : k ≡ k' = cc in
    let b : vs ≡ vs' = cc in
    (p, ap₂ (λ n ws. err n ws p) a b)

-- a transaction sheet with so many inputs and outputs: where they stand
pub record TransactionIs (s : List ℕ) (counts : ℕ × ℕ) : Type 0 where
  pub lists : List Outpoint × List Place
  pub middle : ℕ
  pub end : ℕ
  pub read : (q : ℕ) × (transaction_at s ≡ ok lists q)
  pub inputs : many_at (input_at s) counts.0 4 ≡ ok lists.0 middle
  pub outputs : many_at (place_at 0 s) counts.1 middle ≡ ok lists.1 end

pub transaction-is : (s : List ℕ) {counts : ℕ × ℕ} → transaction_counts s ≡ whole counts → TransactionIs s counts
unfolding transaction_counts transaction_at
transaction-is s {counts} e =
    let j = judged-whole 0 (λ (t : List Outpoint × List Place). (length t.0, length t.1)) (transaction_at s) e in
    let w = sheet-read 0 s (λ head next. ledger_at s head.counts next) j.2 in
    let same : w.head.counts ≡ counts = sym (ledger-long s w.head.counts 4 w.body) ∙ j.3 in
    let l = ledger-read s counts 4 (ap (λ c. ledger_at s c 4) (sym same) ∙ w.body) in
    record { lists = j.0; middle = l.middle; end = w.end; read = (j.1, j.2); inputs = l.inputs; outputs = l.outputs }

-- a coin sheet with so many coins: where they stand
pub record CoinsAre (s : List ℕ) (n : ℕ) : Type 0 where
  pub list : List (Outpoint × Place)
  pub end : ℕ
  pub read : (q : ℕ) × (coins_at s ≡ ok list q)
  pub coins : many_at (coin_at 1 s) n 4 ≡ ok list end

pub coins-are : (s : List ℕ) {counts : ℕ × ℕ} → coin_counts s ≡ whole counts → CoinsAre s counts.0
unfolding coin_counts coins_at
coins-are s {counts} e =
    let j = judged-whole 1 (λ (cs : List (Outpoint × Place)). (length cs, 0)) (coins_at s) e in
    let w = sheet-read 1 s (λ head next. many_at (coin_at head.version s) head.counts.0 next) j.2 in
    let coins : many_at (coin_at 1 s) w.head.counts.0 4 ≡ ok j.0 w.end = ap (λ (v : ℕ). many_at (coin_at v s) w.head.counts.0 4) (sym w.version) ∙ w.body in
    let long : length j.0 ≡ w.head.counts.0 = many-long (coin_at 1 s) w.head.counts.0 4 coins in
    let told : length j.0 ≡ counts.0 = ap (λ (c : ℕ × ℕ). c.0) j.3 in
    record { list = j.0; end = w.end; read = (j.1, j.2); coins = ap (λ n. many_at (coin_at 1 s) n 4) (sym told ∙ long) ∙ coins }

-- a coin sheet is judged by its coins alone
coins-counted : (s : List ℕ) {counts : ℕ × ℕ} → coin_counts s ≡ whole counts → coin_counts s ≡ whole (counts.0, 0)
unfolding coin_counts
coins-counted s {counts} e =
    let t = coins-are s e in
    ap (judged 1 (λ (cs : List (Outpoint × Place)). (length cs, 0))) t.read.1 ∙ ap (λ n. whole (n, 0)) (many-long (coin_at 1 s) counts.0 4 t.coins)

-- ---- both sheets judged

module _ (tx coins : List ℕ) where
  pub pair-both : {x y : ℕ × ℕ} → transaction_counts tx ≡ whole x → coin_counts coins ≡ whole y → whole (x, (y.0, 0)) ≡ pair_counts tx coins
  unfolding pair_counts
  pair-both e f = rw (e, coins-counted coins f)

  pub pair-first : {k : ℕ} {vs : List ℕ} {d : ℕ} → transaction_counts tx ≡ refused k vs d → refused k vs d ≡ pair_counts tx coins
  unfolding pair_counts
  pair-first e = rw e

  pub pair-second : {x : ℕ × ℕ} {k : ℕ} {vs : List ℕ} {d : ℕ} → transaction_counts tx ≡ whole x → coin_counts coins ≡ refused k vs d → refused k vs d ≡ pair_counts tx coins
  unfolding pair_counts
  pair-second e f = rw (e, f)

-- a refusal, whatever would have been told
same-refusal : {A B : Type 0} {k k' : ℕ} {vs vs' : List ℕ} {d d' : ℕ} → ◌≡◌ {A = Judged A} (refused k' vs' d') (refused k vs d) → ◌≡◌ {A = Judged B} (refused k' vs' d') (refused k vs d)
same-refusal {A} {B} {k} {k'} {vs} {vs'} {d} {d'} e =
    let a : k' ≡ k = cc in
    let b : vs' ≡ vs = cc in
    let c : d' ≡ d = cc in
    rw (a, b, c)

pub both-whole : {A B : Type 0} (a : Judged A) (b : Judged B) {x : A} {y : B} → both a b ≡ whole (x, y) → (a ≡ whole x) × (b ≡ whole y)
both-whole {A} {B} (whole a) (whole b) {x} {y} e =
    let same : ◌≡◌ {A = A × B} (a, b) (x, y) = cc in
    (ap (λ (p : A × B). whole p.0) same, ap (λ (p : A × B). whole p.1) same)
both-whole (whole a) (refused k vs side) e = absurd cc
both-whole (refused k vs side) b e = absurd cc

pub pair-whole : (tx coins : List ℕ) {x y : ℕ × ℕ} → pair_counts tx coins ≡ whole (x, y) → (transaction_counts tx ≡ whole x) × (coin_counts coins ≡ whole y)
unfolding pair_counts
pair-whole tx coins e = both-whole (transaction_counts tx) (coin_counts coins) e

-- the first refusal: of the one, or of the other where the one is whole
pub pair-refused : (tx coins : List ℕ) {X : Type 0} {k : ℕ} {vs : List ℕ} {d : ℕ} → pair_counts tx coins ≡ refused k vs d → (transaction_counts tx ≡ refused k vs d → X)
    → ((counts : ℕ × ℕ) → transaction_counts tx ≡ whole counts → coin_counts coins ≡ refused k vs d → X) → X
unfolding pair_counts
pair-refused tx coins {X} {k} {vs} {d} e first second = go (transaction_counts tx) (coin_counts coins) refl refl e
  where
    go : (a b : Judged (ℕ × ℕ)) → transaction_counts tx ≡ a → coin_counts coins ≡ b → both a b ≡ refused k vs d → X
    go (whole a) (whole b) p q e = absurd cc
    go (whole a) (refused k' vs' d') p q e = second a p (q ∙ same-refusal e)
    go (refused k' vs' d') b p q e = first (p ∙ same-refusal e)
