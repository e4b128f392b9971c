-- Two results that meet a contract coincide, for each public function.
use mathlib.Core.Path.{◌≡◌}
use Prim.Native.Nat.{ℕ}
use mathlib.Core.Bool.{Bool}
use mathlib.Core.List.{List}
use denote.Ref.{Bor}
use Rattle.words.proofs.One.{one, one_each}
use Rattle.std.specs.Prelude.{Result}
use Rattle.std.specs.Prelude as code
use Rattle.refusal.specs.declared.Stop.{Stop}
use Rattle.encoding.specs.Paper.{read_paper}
use Rattle.encoding.specs.declared.read.Cursor.{Cursor}
use Rattle.encoding.proofs.Same.{read-same}
use Rattle.primitives.specs.declared.Outpoint.{Outpoint}
use Rattle.sheets.specs.Sheet.{input_at, place_at, gap, transaction_counts, coin_counts, pair_counts}
use Rattle.sheets.specs.Viewer.{view_of, view_bytes, view_place, exists}
use Rattle.sheets.specs.Paper.{sheet_paper, pair_paper, view_paper}
use Rattle.sheets.specs.declared.Counts.{Counts}
use Rattle.sheets.specs.declared.PairCounts.{PairCounts}
use Rattle.sheets.specs.declared.Place.{Place}
use Rattle.sheets.specs.declared.SheetStop.{SheetStop}
use Rattle.sheets.specs.declared.viewer.View.{View}
use Rattle.sheets.proofs.Same.{sheet-same, pair_same, view-same}

pub input-at-one : (s : List ℕ) (at : ℕ) {r r' : Result (Outpoint × Cursor) Stop} → read_paper r ≡ input_at s at → read_paper r' ≡ input_at s at → r ≡ r'
input-at-one s at e f = read-same (one e f)

pub place-at-one : (s : List ℕ) (at side : ℕ) {r r' : Result (Place × Cursor) Stop} → read_paper r ≡ place_at side s at → read_paper r' ≡ place_at side s at → r ≡ r'
place-at-one s at side e f = read-same (one e f)

pub judge-transaction-one : (s : List ℕ) {r r' : Result Counts SheetStop} → sheet_paper r ≡ transaction_counts s → sheet_paper r' ≡ transaction_counts s → r ≡ r'
judge-transaction-one s e f = sheet-same (one e f)

pub judge-coins-one : (s : List ℕ) {r r' : Result Counts SheetStop} → sheet_paper r ≡ coin_counts s → sheet_paper r' ≡ coin_counts s → r ≡ r'
judge-coins-one s e f = sheet-same (one e f)

pub judge-pair-one : (tx coins : List ℕ) {r r' : Result PairCounts SheetStop} → pair_paper r ≡ pair_counts tx coins → pair_paper r' ≡ pair_counts tx coins → r ≡ r'
judge-pair-one tx coins e f = pair_same (one e f)

pub gap-of-one : (version : ℕ) {r r' : ℕ} → r ≡ gap version → r' ≡ gap version → r ≡ r'
gap-of-one version = one

-- a lent slice is its bytes and where they lie; what else its record has, a ghost name, is no part of the value that is
-- handed back
module _ (tx coins : Bor (List ℕ)) (side index item : ℕ) where
  abbrev Says : Bor (List ℕ) → Type 0
  Says r =
      (r.now ≡ view_bytes tx.now coins.now (view_of tx.now coins.now side index item))
      × (r.ref_ptr ≡ view_place tx.ref_ptr coins.ref_ptr (view_of tx.now coins.now side index item))

  pub item-one : (r r' : Bor (List ℕ)) → Says r → Says r' → (r.now ≡ r'.now) × (r.ref_ptr ≡ r'.ref_ptr)
  item-one r r' = one_each

pub find-view-one : (tx coins : List ℕ) (side index item : ℕ) {r r' : code.Option View} → view_paper r ≡ view_of tx coins side index item → view_paper r' ≡ view_of tx coins side index item → r ≡ r'
find-view-one tx coins side index item e f = view-same (one e f)

pub has-item-one : (tx coins : List ℕ) (side index item : ℕ) {r r' : Bool} → r ≡ exists (view_of tx coins side index item) → r' ≡ exists (view_of tx coins side index item) → r ≡ r'
has-item-one tx coins side index item = one
