-- Sheets: document 01, "Sheets and reports", on lists of bytes. "Fields are bit-packed, most significant first".
use Rattle.std.specs.Prelude.{ℕ, zero, suc, ◌+◌, ◌/◌, ◌%◌, ◌^◌, List, [], ◌∷◌, map, Bool, true, length, get_or, ltb, eqb}
use Rattle.words.specs.Words.{be}
use Rattle.words.specs.Buffers.{pick}
use Rattle.refusal.specs.Outcome.{Outcome, ok, err, then, many_at}
use Rattle.encoding.specs.Wire.{slice_at, finish_at}
use Rattle.primitives.specs.declared.Outpoint.{Outpoint}
use Rattle.primitives.specs.Outpoints.{outpoint}
use Rattle.covenants.specs.Covenant as covenant
use Rattle.covenants.specs.Covenant.{max_encoded_size, item_at, covenant_at, bytes_in, contents}
use Rattle.sheets.specs.declared.Address.{Address}
use Rattle.sheets.specs.declared.Place.{Place}

-- "at most 16,777,216 bytes a sheet (28 first)"
abbrev pub max_sheet_size : ℕ
max_sheet_size = 16777216

-- ---- what a sheet holds: lists of inputs, outputs and coins, with no offsets

pub record Output : Type 0 where
  pub value : ℕ
  pub address : ℕ × List ℕ  -- its version and its hash
  pub kind : ℕ
  pub items : List (List ℕ)

pub record Coin : Type 0 where
  pub outpoint : Outpoint
  pub output : Output

pub record Transaction : Type 0 where
  pub inputs : List Outpoint
  pub outputs : List Output

-- what follows a read, and nothing where it is refused
abbrev pub upon : {A B : Type 0} → Outcome A → (A → ℕ → List B) → List B
upon (ok a next) f = f a next
upon (err k vs p) f = []

-- the first of n reads in a row, as far as they go
unfoldable pub seen_at : {A : Type 0} → (ℕ → Outcome A) → ℕ → ℕ → List A
seen_at read zero at = []
seen_at read (suc n) at = upon (read at) (λ x next. x ∷ seen_at read n next)

-- where the items of the covenant that stands at a place stand: all that its head counts, or up to the first that
-- cannot be read. Those of a covenant that is accepted are all its items (`ItemsAreRead`), and a sheet with another
-- covenant is refused
unfoldable pub parts_from : List ℕ → ℕ → List (ℕ × ℕ)
parts_from s at = upon (covenant.head_at max_encoded_size s at) (λ head first. seen_at (item_at max_encoded_size at s) head.1 first)

unfoldable pub items_from : List ℕ → ℕ → List (List ℕ)
items_from s at = contents s (parts_from s at)

-- an address, from where it stands in a sheet: its version and its hash
abbrev pub address_at : List ℕ → Address → ℕ × List ℕ
address_at s a = (a.version, bytes_in s (a.start, a.len))

-- an output, from the place where it stands in a sheet
abbrev pub output_of : List ℕ → Place → Output
output_of s p = record { value = p.value.0; address = address_at s p.address; kind = p.kind; items = items_from s p.covenant }

abbrev pub coin_of : List ℕ → Outpoint × Place → Coin
coin_of s c = record { outpoint = c.0; output = output_of s c.1 }

-- ---- reading

-- "A wrong fixed field is 27, left to right"; "27 gives the byte where the field begins"
abbrev pub field : {A : Type 0} → Bool → ℕ → ℕ → Outcome A → Outcome A
field right side offset o = pick right o (err 27 (side ∷ offset ∷ []) offset)

-- what a head says: the sheet's version, and how many inputs and outputs there are, or coins and 0
pub record Head : Type 0 where
  pub version : ℕ
  pub counts : ℕ × ℕ

-- "Head: version 4 bits = 1; side 2 bits (0 transaction, 1 coins); inputs or coins 10; outputs 10 (0 on coins); spare
-- 6 = 0"; n is its 32 bits
unfoldable pub head_fields : ℕ → ℕ → ℕ → Outcome Head
head_fields side n next =
    field (eqb (n / 2 ^ 28) 1) side 0
    (field (eqb (n / 2 ^ 26 % 4) side) side 0
    (field (pick (eqb side 1) (eqb (n / 2 ^ 6 % 1024) 0) true) side 2
    (field (eqb (n % 64) 0) side 3
    (ok (record { version = n / 2 ^ 28; counts = (n / 2 ^ 16 % 1024, n / 2 ^ 6 % 1024) }) next))))

-- "Head (4 bytes) .. one fixed read, judged by 1 before its fields"
unfoldable pub sheet_head_at : ℕ → List ℕ → Outcome Head
sheet_head_at side s = then (slice_at 4 s 0) (λ fields next. head_fields side (be (bytes_in s (0, 4))) next)

-- "Input: hash, index 32 bits"; outpoint (36) one fixed read
unfoldable pub input_at : List ℕ → ℕ → Outcome Outpoint
input_at s at = then (slice_at 36 s at) (λ fields next. ok (outpoint (bytes_in s (at, 32)) (be (bytes_in s (at + 32, 4)))) next)

-- ".. hash length 6, hash, covenant by its codec under 1,000,009"; the hash is one fixed read
unfoldable pub place_body_at : ℕ → ℕ → ℕ → List ℕ → ℕ → Outcome Place
place_body_at value version size s at =
    then (slice_at size s at)
    (λ hash covenant.
    then (covenant_at max_encoded_size s covenant)
    (λ c next. ok (record { value = record { 0 = value }; address = record { version = version; start = hash.0; len = hash.1 }; covenant = covenant; kind = c.kind }) next))

-- "Output: value 64, address version 8, spare 2 = 0": "output fields before the hash (10)" are one fixed read
unfoldable pub place_at : ℕ → List ℕ → ℕ → Outcome Place
place_at side s at =
    then (slice_at 10 s at)
    (λ fields next.
    field (eqb (get_or s (at + 9) 0 / 64) 0) side (at + 9)
    (place_body_at (be (bytes_in s (at, 8))) (get_or s (at + 8) 0) (get_or s (at + 9) 0 % 64) s next))

-- how many bytes a sheet of a version has between a coin's outpoint and its output: none in version 1
abbrev pub gap : ℕ → ℕ
gap version = 0

-- "Coin: outpoint as an input, then as an output"
unfoldable pub coin_at : ℕ → List ℕ → ℕ → Outcome (Outpoint × Place)
coin_at version s at = then (input_at s at) (λ o next. then (place_at 1 s (next + gap version)) (λ p next. ok (o, p) next))

-- "at most .. bytes a sheet (28 first)"; "leftover bytes are 3"
unfoldable pub sheet_at : {A : Type 0} → ℕ → List ℕ → (Head → ℕ → Outcome A) → Outcome A
sheet_at side s rest =
    pick (ltb max_sheet_size (length s)) (err 28 (side ∷ length s ∷ []) 0)
    (then (sheet_head_at side s) (λ head next. then (rest head next) (λ a end. then (finish_at s end) (λ nothing end. ok a end))))

-- "Inputs come before outputs"
unfoldable pub ledger_at : List ℕ → ℕ × ℕ → ℕ → Outcome (List Outpoint × List Place)
ledger_at s counts at =
    then (many_at (input_at s) counts.0 at)
    (λ inputs next. then (many_at (place_at 0 s) counts.1 next) (λ outputs end. ok (inputs, outputs) end))

unfoldable pub transaction_at : List ℕ → Outcome (List Outpoint × List Place)
transaction_at s = sheet_at 0 s (λ head next. ledger_at s head.counts next)

unfoldable pub coins_at : List ℕ → Outcome (List (Outpoint × Place))
coins_at s = sheet_at 1 s (λ head next. many_at (coin_at head.version s) head.counts.0 next)

-- ---- a sheet judged whole: what it holds; or a refusal by its number and what it carries, and the side ("Refusals 1
-- to 5 from a sheet also carry the side"). "A refused read, sheets apart, also returns the position": here none

pub data Judged (A : Type 0) : Type 0 where
  whole : A → Judged A
  refused : ℕ → List ℕ → ℕ → Judged A

abbrev pub judged : {A B : Type 0} → ℕ → (A → B) → Outcome A → Judged B
judged side f (ok a end) = whole (f a)
judged side f (err k vs p) = refused k vs side

-- the transaction and the coins that two sheets hold
unfoldable pub transaction_of : List ℕ → Judged Transaction
transaction_of s = judged 0 (λ t. record { inputs = t.0; outputs = map (output_of s) t.1 }) (transaction_at s)

unfoldable pub coins_of : List ℕ → Judged (List Coin)
coins_of s = judged 1 (map (coin_of s)) (coins_at s)

-- how many there are: inputs and outputs, or coins and 0
unfoldable pub transaction_counts : List ℕ → Judged (ℕ × ℕ)
transaction_counts s = judged 0 (λ t. (length t.0, length t.1)) (transaction_at s)

unfoldable pub coin_counts : List ℕ → Judged (ℕ × ℕ)
coin_counts s = judged 1 (λ cs. (length cs, 0)) (coins_at s)

-- "The transaction sheet is judged whole, then the coin sheet": both, or the first refusal
abbrev pub both : {A B : Type 0} → Judged A → Judged B → Judged (A × B)
both (whole a) (whole b) = whole (a, b)
both (whole a) (refused k vs side) = refused k vs side
both (refused k vs side) coins = refused k vs side

-- the transaction and the coins; and how many inputs and outputs, and coins and 0
unfoldable pub pair_of : List ℕ → List ℕ → Judged (Transaction × List Coin)
pair_of tx coins = both (transaction_of tx) (coins_of coins)

unfoldable pub pair_counts : List ℕ → List ℕ → Judged ((ℕ × ℕ) × (ℕ × ℕ))
pair_counts tx coins = both (transaction_counts tx) (coin_counts coins)
