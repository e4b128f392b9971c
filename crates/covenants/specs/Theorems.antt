-- What was written reads back, what was accepted is what would be written, and items agree. The statements; their
-- proofs are in proofs/Theorems.antt.
use Rattle.std.specs.Prelude.{◌≡◌, ℕ, ◌+◌, ◌-◌, ◌≤◌, ◌<◌, List, ◌++◌, length, take, drop}
use Rattle.words.specs.Words.{Bytes}
use Rattle.refusal.specs.Outcome.{ok, wrote}
use Rattle.encoding.specs.Joined.{All}
use Rattle.encoding.specs.Theorems.{Lent}
use Rattle.covenants.specs.Covenant.{max_items, max_item_size, max_encoded_size, Reading, covenant_at, contents}
use Rattle.covenants.specs.Written.{covenant_bytes, covenant_size, parts, Held, size_answer, directory_bytes, encode_answer, encode_content, table_size, table_answer, table_content}
use Rattle.covenants.specs.Items.{directory_item, nth, seek_at}
use Rattle.covenants.specs.Paper.{directory_of}
use Rattle.covenants.specs.declared.Covenant.{Covenant}

-- a covenant as the network means it: its kind and its items' bytes
pub record Meant : Type 0 where
  pub kind : ℕ
  pub items : List (List ℕ)

-- the bytes that the writer's contract names
abbrev pub written : Meant → List ℕ
written c = covenant_bytes c.kind c.items

-- none of the items is too long
abbrev pub Short : List (List ℕ) → Type 0
Short items = All (λ (item : List ℕ). length item ≤ max_item_size) items

-- "writable": what the writer accepts (`AcceptedIsWritable`)
pub record Writable (c : Meant) : Type 0 where
  pub kind : c.kind < 256
  pub count : length c.items ≤ max_items
  pub short : Short c.items
  pub size : length (written c) ≤ max_encoded_size

-- the covenant that a directory means: its kind, and its items' bytes in the source
abbrev pub meant_by : ℕ → List ℕ → List ℕ → List ℕ → ℕ → Meant
meant_by kind source starts lens count = record { kind = kind; items = contents source (parts starts lens 0 count) }

-- the writer gives a writable covenant its size, from every directory that means its items and lies within its source
abbrev pub WritableIsAccepted : Type 0
WritableIsAccepted =
    (c : Meant) (source starts lens : List ℕ) → Writable c → contents source (parts starts lens 0 (length c.items)) ≡ c.items
    → Held (length source) (parts starts lens 0 (length c.items))
    → size_answer source starts lens (length c.items) ≡ wrote (length (written c))

-- "A write fills exactly the first n bytes and returns n; the rest is untouched": the first n bytes of the buffer are
-- the covenant that the directory means, which is writable; so demand 3 speaks of what stands in the buffer
pub record Writes (kind : ℕ) (source starts lens : List ℕ) (count : ℕ) (d : List ℕ) (n : ℕ) : Type 0 where
  pub holds : take n (encode_content kind source starts lens count d) ≡ written (meant_by kind source starts lens count)
  pub size : n ≡ length (written (meant_by kind source starts lens count))
  pub rest : drop n (encode_content kind source starts lens count d) ≡ drop n d
  pub writable : Writable (meant_by kind source starts lens count)

abbrev pub EncodeWrites : Type 0
EncodeWrites =
    (kind : ℕ) (source starts lens : List ℕ) (count : ℕ) (d : List ℕ) (n : ℕ) → kind < 256 → encode_answer kind source starts lens count d ≡ wrote n
    → Writes kind source starts lens count d n

-- a directory of 1,000 entries is a table that begins at entry 0: the writer says the same of both, and leaves the same
pub record SameAsTable (kind : ℕ) (source starts lens : List ℕ) (count : ℕ) (d : List ℕ) : Type 0 where
  pub size : table_size source starts lens 0 count ≡ size_answer source starts lens count
  pub answer : table_answer 0 kind source starts lens 0 count d ≡ encode_answer kind source starts lens count d
  pub content : table_content 0 kind source starts lens 0 count d ≡ encode_content kind source starts lens count d

abbrev pub DirectoryIsTable : Type 0
DirectoryIsTable =
    (kind : ℕ) (source starts lens : List ℕ) (count : ℕ) (d : List ℕ) → length starts ≡ max_items → length lens ≡ max_items
    → SameAsTable kind source starts lens count d

-- the covenant that a directory means is writable where the writer's contract gives its size
abbrev pub AcceptedIsWritable : Type 0
AcceptedIsWritable =
    (kind : ℕ) (source starts lens : List ℕ) (count size : ℕ) → kind < 256 → size_answer source starts lens count ≡ wrote size
    → Writable (meant_by kind source starts lens count)

-- "Reading what was written gives the covenant back, kind and items, with what follows left over"
abbrev pub CovenantReadsBack : Type 0
CovenantReadsBack =
    (c : Meant) (before rest : List ℕ) → Writable c → Lent (before ++ (written c ++ rest))
    → (r : Reading) × (covenant_at max_encoded_size (before ++ (written c ++ rest)) (length before) ≡ ok r (length before + length (written c)))
    × (r.kind ≡ c.kind) × (contents (before ++ (written c ++ rest)) r.items ≡ c.items) × (r.used ≡ length (written c))
    × (drop (length before + length (written c)) (before ++ (written c ++ rest)) ≡ rest)

-- "what is accepted, written again, gives the same bytes"
abbrev pub AcceptedIsWritten : Type 0
AcceptedIsWritten =
    (limit : ℕ) (s : List ℕ) (at : ℕ) (r : Reading) (end : ℕ) → Bytes s → Lent s → covenant_at limit s at ≡ ok r end
    → covenant_bytes r.kind (contents s r.items) ≡ take (end - at) (drop at s)

-- "The bytes used up from the allowance are .. equal to the covenant's encoded size"
abbrev pub UsedIsSize : Type 0
UsedIsSize =
    (limit : ℕ) (s : List ℕ) (at : ℕ) (r : Reading) (end : ℕ) → Bytes s → Lent s → covenant_at limit s at ≡ ok r end
    → (r.used ≡ covenant_size (contents s r.items)) × (end ≡ at + r.used)

-- and the writer gives that size to the directory that was handed out, over the bytes that were read: it means them,
-- and writes them again into every buffer with room for them
pub record WritesBack (c : Covenant) (s : List ℕ) (at used : ℕ) : Type 0 where
  pub size : size_answer s c.starts c.lens c.count ≡ wrote used
  pub means : directory_bytes c.kind s c.starts c.lens c.count ≡ take used (drop at s)
  pub answer : (d : List ℕ) → used ≤ length d → encode_answer c.kind s c.starts c.lens c.count d ≡ wrote used
  pub holds : (d : List ℕ) → used ≤ length d → take used (encode_content c.kind s c.starts c.lens c.count d) ≡ take used (drop at s)

abbrev pub WrittenAgain : Type 0
WrittenAgain =
    (limit : ℕ) (s : List ℕ) (at : ℕ) (r : Reading) (end : ℕ) → Bytes s → Lent s → covenant_at limit s at ≡ ok r end
    → WritesBack (directory_of (ok r end)) s at r.used

-- and the size is how many bytes are written
abbrev pub SizeIsLength : Type 0
SizeIsLength = (c : Meant) → length (written c) ≡ covenant_size c.items

-- what is accepted under an allowance is accepted under a larger one, and read alike
abbrev pub AllowanceGrows : Type 0
AllowanceGrows =
    (limit limit' : ℕ) (s : List ℕ) (at : ℕ) (r : Reading) (end : ℕ) → limit ≤ limit' → covenant_at limit s at ≡ ok r end
    → covenant_at limit' s at ≡ ok r end

-- an item found by a scan of an accepted covenant's bytes is that item of it, whatever the allowance was
abbrev pub FindFindsItem : Type 0
FindFindsItem =
    (limit : ℕ) (s : List ℕ) (at index : ℕ) (r : Reading) (end : ℕ) → covenant_at limit s at ≡ ok r end → seek_at s at index ≡ nth r.items index

-- and so is the item of its directory: the two agree
abbrev pub DirectoryHoldsItem : Type 0
DirectoryHoldsItem =
    (limit : ℕ) (s : List ℕ) (at index : ℕ) (r : Reading) (end : ℕ) → Lent s → covenant_at limit s at ≡ ok r end
    → directory_item s (directory_of (ok r end)).starts (directory_of (ok r end)).lens (directory_of (ok r end)).count index ≡ nth r.items index
