-- The words of private functions, of a sheet's beginning and of the way to an item that the viewer takes; no outsider
-- reads them.
use Rattle.std.specs.Prelude.{◌≡◌, ℕ, ◌+◌, List, [], ◌∷◌, map, length, ltb, Result}
use Rattle.std.proofs.Math.Option.{Option, none}
use Rattle.words.specs.Buffers.{pick}
use Rattle.refusal.specs.Outcome.{Outcome, ok, err, then, past, many_at}
use Rattle.refusal.specs.declared.Stop.{Stop}
use Rattle.encoding.specs.Paper.{moved_paper}
use Rattle.encoding.specs.declared.read.Cursor.{Cursor}
use Rattle.primitives.specs.declared.Outpoint.{Outpoint}
use Rattle.covenants.specs.Items.{seek_at}
use Rattle.sheets.specs.declared.Place.{Place}
use Rattle.sheets.specs.Sheet.{max_sheet_size, Head, sheet_head_at, input_at, place_at, gap, coin_at}

-- a sheet's length, and then its head
unfoldable pub opened_at : ℕ → List ℕ → Outcome Head
opened_at side s = pick (ltb max_sheet_size (length s)) (err 28 (side ∷ length s ∷ []) 0) (sheet_head_at side s)

-- the places of a sheet that was read: none where it was refused
abbrev pub places_of : Outcome (List Outpoint × List Place) → List Place
places_of (ok t end) = t.1
places_of (err k vs p) = []

abbrev pub coin_places_of : Outcome (List (Outpoint × Place)) → List Place
coin_places_of (ok cs end) = map (λ (c : Outpoint × Place). c.1) cs
coin_places_of (err k vs p) = []

-- the item of an output that was read, by a scan of its covenant
abbrev pub item_read : List ℕ → Outcome Place → ℕ → Option (ℕ × ℕ)
item_read s (ok p next) item = seek_at s p.covenant item
item_read s (err k vs p) item = none

-- .. of the output that stands where a walk ended
abbrev pub item_after : ℕ → List ℕ → Outcome Unit → ℕ → Option (ℕ × ℕ)
item_after side s (ok nothing at) item = item_read s (place_at side s at) item
item_after side s (err k vs p) item = none

-- where a coin's output stands: after its outpoint, and what its version puts after that
unfoldable pub coin_output : ℕ → List ℕ → ℕ → Outcome Unit
coin_output version s at = then (past (input_at s at)) (λ nothing next. ok tt (next + gap version))

-- .. of the coin after so many others
unfoldable pub coin_start : ℕ → List ℕ → ℕ → ℕ → Outcome Unit
coin_start version s n at = then (past (many_at (coin_at version s) n at)) (λ nothing next. coin_output version s next)

-- so many things were passed, each as `passed` says, whatever passing one of them comes to
abbrev pub PassedEach : (Cursor → Result Cursor Stop → Type 0) → Cursor → ℕ → Result Cursor Stop → Type 0
PassedEach passed from n r =
    (ends : ℕ → Outcome Unit) → ((c : Cursor) (next : Result Cursor Stop) → passed c next → moved_paper next ≡ ends c.position)
    → moved_paper r ≡ past (many_at ends n from.position)
