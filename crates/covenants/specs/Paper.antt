-- What each answer says, in the document's numbers.
use Rattle.std.specs.Prelude.{ℕ, Bool, true, false, List, [], map, length, replicate, Some, None, Result, Ok, Err}
use Rattle.std.specs.Prelude as code
use Rattle.std.proofs.Math.Option.{Option, some, none}
use Rattle.words.specs.Buffers.{zero_padded}
use Rattle.refusal.specs.Outcome.{Outcome, ok, err}
use Rattle.refusal.specs.Paper.{stop_paper}
use Rattle.refusal.specs.declared.Stop.{Stop}
use Rattle.encoding.specs.declared.read.Cursor.{Cursor}
use Rattle.encoding.specs.declared.read.Span.{Span}
use Rattle.primitives.specs.declared.NameHash.{NameHash}
use Rattle.covenants.specs.Covenant.{max_items, Reading, Skimmed}
use Rattle.covenants.specs.declared.Accepted.{Accepted}
use Rattle.covenants.specs.declared.Covenant.{Covenant}
use Rattle.covenants.specs.declared.Head.{Head}
use Rattle.covenants.specs.declared.decode.Decoded.{Decoded}

abbrev pub covenant_paper : Result (Accepted × Cursor) Stop → Outcome Skimmed
covenant_paper (Ok r) = ok (r.0.kind, r.0.count, r.0.used) r.1.position
covenant_paper (Err s) = stop_paper s

abbrev pub head_paper : Result (Head × Cursor) Stop → Outcome (ℕ × ℕ)
head_paper (Ok r) = ok (r.0.kind, r.0.count) r.1.position
head_paper (Err s) = stop_paper s

-- one of the directory's two arrays: the numbers that there are, and zeros
abbrev pub listed : List ℕ → List ℕ
listed xs = zero_padded max_items xs

-- the covenant of a reading; "Unused parts of an answer are zeros"
unfoldable pub directory_of : Outcome Reading → Covenant
directory_of (ok c p) =
    record {
      kind = c.kind;
      count = length c.items;
      starts = listed (map (λ (i : ℕ × ℕ). i.0) c.items);
      lens = listed (map (λ (i : ℕ × ℕ). i.1) c.items);
    }
directory_of (err k vs p) = record { kind = 0; count = 0; starts = listed []; lens = listed [] }

-- a covenant with its directory, and the bytes used up from the allowance
abbrev pub decoded_paper : Result (Decoded × Cursor) Stop → Outcome (Covenant × ℕ)
decoded_paper (Ok r) = ok (r.0.covenant, r.0.used) r.1.position
decoded_paper (Err s) = stop_paper s

abbrev pub decoded : Outcome Reading → Outcome (Covenant × ℕ)
decoded (ok c p) = ok (directory_of (ok c p), c.used) p
decoded (err k vs p) = err k vs p

-- ---- single items

abbrev pub spot_paper : code.Option Span → Option (ℕ × ℕ)
spot_paper (Some part) = some (part.start, part.len)
spot_paper None = none

-- an item as a number of a type
abbrev pub number_paper : {A : Type 0} → (A → ℕ) → code.Option A → Option ℕ
number_paper number (Some v) = some (number v)
number_paper number None = none

abbrev pub name_hash_paper : code.Option NameHash → Option (List ℕ)
name_hash_paper (Some hash) = some hash.0
name_hash_paper None = none

-- what is handed out of 32 bytes that may be absent: "Unused parts of an answer are zeros"
abbrev pub shown_item_hash : Option (List ℕ) → Bool × List ℕ
shown_item_hash (some bs) = (true, bs)
shown_item_hash none = (false, replicate 32 0)
