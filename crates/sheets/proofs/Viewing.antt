-- The way to an item leads to the item of the lists that the sheets hold; and it lies inside its sheet.
use mathlib.Core.Path.{◌≡◌, refl, ap, ap₂, sym, ◌∙◌}
use Prim.Native.Nat.{ℕ, zero, suc, ◌+◌, ◌^◌, ◌≤◌, ◌<◌}
use native.Mathlib.Omega.{arith}
use mathlib.Core.List.{List, [], ◌∷◌, ◌++◌, map, map-append}
use mathlib.Core.Bool.{Bool, true, false}
use mathlib.Core.Option.{Option, some, none}
use lib.ListN.{length, length-map}
use lib.Dec.{eqb}
use Rattle.covenants.proofs.Agree.{seek_finds, nth_inside}
use Rattle.words.specs.Buffers.{pick}
use Rattle.refusal.specs.Outcome.{Stand, Outcome, ok, err, then, past}
use Rattle.refusal.proofs.Many.{many-long, many-member}
use Rattle.primitives.specs.declared.Outpoint.{Outpoint}
use Rattle.covenants.specs.Covenant.{Reading, covenant_at}
use Rattle.sheets.specs.declared.Place.{Place}
use Rattle.sheets.specs.Sheet.{place_at, gap, coin_at, ledger_at, transaction_at, coins_at, whole, refused, transaction_counts, coin_counts, pair_counts}
use Rattle.sheets.specs.Viewer.{View, in_transaction, in_coins, nowhere, record_of, item_in, item_of_place, viewed, view_in, view_of}
use Rattle.sheets.specs.Workers.{places_of, coin_places_of, item_read, item_after, coin_output, coin_start}
use Rattle.sheets.proofs.Reading.{place_read, coin-read}
use Rattle.sheets.proofs.Whole.{ledger-next, transaction-is, coins-are, judged-refused, pair-whole, pair-refused}

-- ---- a record of a list of places

-- the record after so many others; and none after all
record-front : (front : List Place) (p : Place) (back : List Place) → record_of (front ++ (p ∷ back)) (length front) ≡ some p
record-front [] p back = refl
record-front (q ∷ front) p back = record-front front p back

record-none : (ps : List Place) (k : ℕ) → length ps ≤ k → record_of ps k ≡ none
record-none [] k h = refl
record-none (p ∷ ps) zero h = absurd (omega arith)
record-none (p ∷ ps) (suc k) h = record-none ps k (omega arith)

abbrev second : Outpoint × Place → Place
second c = c.1

-- ---- the item of a record

module _ (s : List ℕ) (big : length s < 2 ^ 64) where
  item-of-read : (side at : ℕ) {p : Place} {next : ℕ} (item : ℕ) → place_at side s at ≡ ok p next → item_read s (place_at side s at) item ≡ item_of_place s (some p) item
  item-of-read side at {p} item e =
      let w = place_read s big side at e in
      ap (λ o. item_read s o item) e ∙ seek_finds s p.covenant item w.covenant ∙ sym (ap (λ o. item_in o item) w.covenant)

  -- ---- an output's

  module _ {counts : ℕ × ℕ} (counted : transaction_counts s ≡ whole counts) (k item : ℕ) where
    abbrev OutputItem : Option (ℕ × ℕ)
    OutputItem = item_of_place s (record_of (places_of (transaction_at s)) k) item

    pub output-none : counts.1 ≤ k → none ≡ OutputItem
    output-none h =
        let t = transaction-is s counted in
        let long = many-long (place_at 0 s) counts.1 t.middle t.outputs in
        let missing : record_of t.lists.1 k ≡ none = record-none t.lists.1 k (omega arith) in
        sym (ap (λ o. item_of_place s (record_of (places_of o) k) item) t.read.1 ∙ ap (λ r. item_of_place s r item) missing)

    pub output-there : {walked : Outcome Unit} → k < counts.1 → past (ledger_at s (counts.0, k) 4) ≡ walked → item_after 0 s walked item ≡ OutputItem
    output-there h e =
        let t = transaction-is s counted in
        let m = many-member (place_at 0 s) k counts.1 t.middle h t.outputs in
        let long = many-long (place_at 0 s) k t.middle m.before in
        let is : record_of t.lists.1 k ≡ some m.item = ap₂ record_of m.split (sym long) ∙ record-front m.front m.item m.back in
        let way : past (ledger_at s (counts.0, k) 4) ≡ ok tt m.start = ledger-next s (counts.0, k) 4 (ap past t.inputs) ∙ ap past m.before in
        ap (λ o. item_after 0 s o item) (sym e ∙ way) ∙ item-of-read 0 m.start item m.here
        ∙ sym (ap (λ o. item_of_place s (record_of (places_of o) k) item) t.read.1 ∙ ap (λ r. item_of_place s r item) is)

  -- ---- a coin's

  module _ {counts : ℕ × ℕ} (counted : coin_counts s ≡ whole counts) (k item : ℕ) where
    abbrev CoinItem : Option (ℕ × ℕ)
    CoinItem = item_of_place s (record_of (coin_places_of (coins_at s)) k) item

    pub coin-none : counts.0 ≤ k → none ≡ CoinItem
    coin-none h =
        let t = coins-are s counted in
        let long = many-long (coin_at 1 s) counts.0 4 t.coins in
        let missing : record_of (map second t.list) k ≡ none = record-none (map second t.list) k (omega (arith, length-map t.list second)) in
        sym (ap (λ o. item_of_place s (record_of (coin_places_of o) k) item) t.read.1 ∙ ap (λ r. item_of_place s r item) missing)

    pub coin-there : {walked : Outcome Unit} → k < counts.0 → coin_start 1 s k 4 ≡ walked → item_after 1 s walked item ≡ CoinItem
    unfolding coin_start coin_output
    coin-there h e =
        let t = coins-are s counted in
        let m = many-member (coin_at 1 s) k counts.0 4 h t.coins in
        let c = coin-read 1 s m.start m.here in
        let long : length (map second m.front) ≡ k = length-map m.front second ∙ many-long (coin_at 1 s) k 4 m.before in
        let split : map second t.list ≡ map second m.front ++ (m.item.1 ∷ map second m.back) = ap (map second) m.split ∙ map-append second m.front (m.item ∷ m.back) in
        let is : record_of (map second t.list) k ≡ some m.item.1 = ap₂ record_of split (sym long) ∙ record-front (map second m.front) m.item.1 (map second m.back) in
        let way : coin_start 1 s k 4 ≡ ok tt (c.middle + gap 1) = ap (λ o. then (past o) (λ nothing next. coin_output 1 s next)) m.before ∙ ap (λ o. then (past o) (λ nothing next. ok tt (next + gap 1))) c.outpoint in
        ap (λ o. item_after 1 s o item) (sym e ∙ way) ∙ item-of-read 1 (c.middle + gap 1) item c.output
        ∙ sym (ap (λ o. item_of_place s (record_of (coin_places_of o) k) item) t.read.1 ∙ ap (λ r. item_of_place s r item) is)

  -- an item lies within
  item-inside : (r : Option Place) (item : ℕ) {part : ℕ × ℕ} → item_of_place s r item ≡ some part → part.0 + part.1 ≤ length s
  item-inside none item e = absurd cc
  item-inside (some p) item {part} e = go (covenant_at 1000009 s p.covenant) refl e
    where
      go : (o : Outcome Reading) → covenant_at 1000009 s p.covenant ≡ o → item_in o item ≡ some part → part.0 + part.1 ≤ length s
      go (ok c next) f e = nth_inside s p.covenant item big f e
      go (err k vs q) f e = absurd cc

-- ---- both sheets

-- a part that is handed back lies inside its sheet
abbrev pub Inside : List ℕ → List ℕ → View → Type 0
Inside tx coins (in_transaction start len) = start + len ≤ length tx
Inside tx coins (in_coins start len) = start + len ≤ length coins
Inside tx coins nowhere = Unit

module _ (tx coins : List ℕ) (side k item : ℕ) where
  abbrev Chosen : View
  Chosen =
      pick (eqb side 0) (viewed in_transaction (item_of_place tx (record_of (places_of (transaction_at tx)) k) item))
      (pick (eqb side 1) (viewed in_coins (item_of_place coins (record_of (coin_places_of (coins_at coins)) k) item)) nowhere)

  pub view-chosen : {v w : ℕ × ℕ} → pair_counts tx coins ≡ whole (v, w) → view_of tx coins side k item ≡ Chosen
  unfolding view_of
  view-chosen e =
      let p = pair-whole tx coins e in
      let t = (transaction-is tx p.0).read in
      let cs = (coins-are coins p.1).read in
      rw (t.1, cs.1)

  view-no-transaction : {n : ℕ} {vs : List ℕ} {d : ℕ} → transaction_counts tx ≡ refused n vs d → view_of tx coins side k item ≡ nowhere
  unfolding view_of transaction_counts
  view-no-transaction e = let w = judged-refused 0 (λ (t : List Outpoint × List Place). (length t.0, length t.1)) (transaction_at tx) e in rw w.1

  view-no-coins : {n : ℕ} {vs : List ℕ} {d : ℕ} → coin_counts coins ≡ refused n vs d → view_of tx coins side k item ≡ nowhere
  unfolding view_of coin_counts
  view-no-coins e =
      let w = judged-refused 1 (λ (cs : List (Outpoint × Place)). (length cs, 0)) (coins_at coins) e in
      rw w.1 (go (transaction_at tx) _ _ _)
    where
      go : (o : Outcome (List Outpoint × List Place)) (n : ℕ) (vs : List ℕ) (p : Stand) → view_in tx coins side k item o (err n vs p) ≡ nowhere
      go (ok t end) n vs p = refl
      go (err n' vs' p') n vs p = refl

  -- .. where either sheet is refused
  pub view-no-pair : {n : ℕ} {vs : List ℕ} {d : ℕ} → pair_counts tx coins ≡ refused n vs d → view_of tx coins side k item ≡ nowhere
  view-no-pair e = pair-refused tx coins e view-no-transaction (λ counts f. view-no-coins)

  module _ (big : length tx < 2 ^ 64) (large : length coins < 2 ^ 64) where
    in-transaction : (m : Option (ℕ × ℕ)) → ((part : ℕ × ℕ) → m ≡ some part → part.0 + part.1 ≤ length tx) → Inside tx coins (viewed in_transaction m)
    in-transaction none h = tt
    in-transaction (some part) h = h part refl

    in-coins : (m : Option (ℕ × ℕ)) → ((part : ℕ × ℕ) → m ≡ some part → part.0 + part.1 ≤ length coins) → Inside tx coins (viewed in_coins m)
    in-coins none h = tt
    in-coins (some part) h = h part refl

    on-side : (a b : Bool) (v w : View) → Inside tx coins v → Inside tx coins w → Inside tx coins (pick a v (pick b w nowhere))
    on-side true b v w h g = h
    on-side false true v w h g = g
    on-side false false v w h g = tt

    pub view-inside : Inside tx coins (view_of tx coins side k item)
    unfolding view_of
    view-inside = go (transaction_at tx) (coins_at coins)
      where
        go : (o : Outcome (List Outpoint × List Place)) (p : Outcome (List (Outpoint × Place))) → Inside tx coins (view_in tx coins side k item o p)
        go (ok t end) (ok cs end') =
            on-side (eqb side 0) (eqb side 1) _ _
            (in-transaction (item_of_place tx (record_of t.1 k) item) (λ part. item-inside tx big (record_of t.1 k) item))
            (in-coins (item_of_place coins (record_of (map second cs) k) item) (λ part. item-inside coins large (record_of (map second cs) k) item))
        go (ok t end) (err n vs p) = tt
        go (err n vs p) o = tt
