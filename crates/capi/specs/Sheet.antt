-- Answers over sheets and the item viewer as flat structs.
use Rattle.std.specs.Prelude.{ℕ, true, false, []}
use Rattle.refusal.specs.Outcome.{position_of, Outcome, ok, err}
use Rattle.sheets.specs.Sheet.{Judged, whole, refused}
use Rattle.sheets.specs.Viewer.{View, in_transaction, in_coins, nowhere}
use Rattle.capi.specs.Flat.{stop_flat}
use Rattle.capi.specs.declared.sheet.SheetAnswer.{SheetAnswer}
use Rattle.sheets.specs.declared.Place.{Place}
use Rattle.capi.specs.declared.sheet.PlaceAnswer.{PlaceAnswer}
use Rattle.capi.specs.declared.sheet.ViewAnswer.{ViewAnswer}

-- the counts of a sheet that is accepted; the side is told only where it is refused. The position is always 0:
-- "A refused read, sheets apart, also returns the position"
abbrev pub sheet_flat : Judged (ℕ × ℕ) → SheetAnswer
sheet_flat (whole counts) = record { stop = stop_flat 0 [] 0; side = 0; inputs = counts.0; outputs = counts.1 }
sheet_flat (refused k vs side) = record { stop = stop_flat k vs 0; side = side; inputs = 0; outputs = 0 }

-- where an output stands, or a coin after its outpoint; and the position after it
abbrev pub output_flat : Outcome Place → PlaceAnswer
output_flat (ok place p) =
    record {
      stop = stop_flat 0 [] p;
      value = place.value.0;
      version = place.address.version;
      start = place.address.start;
      size = place.address.len;
      covenant = place.covenant;
      kind = place.kind;
    }
output_flat (err k vs p) =
    record {
      stop = stop_flat k vs (position_of p);
      value = 0;
      version = 0;
      start = 0;
      size = 0;
      covenant = 0;
      kind = 0;
    }

-- where the item stands, in the sheet of the side that was asked for; "on no, the part is the empty start"
abbrev pub view_flat : View → ViewAnswer
view_flat (in_transaction start len) = record { exists = true; offset = start; length = len }
view_flat (in_coins start len) = record { exists = true; offset = start; length = len }
view_flat nowhere = record { exists = false; offset = 0; length = 0 }
