-- Files of recorded answers of the Rust (differential/record writes them): what a record says, and when our rules say
-- the same.
use Rattle.std.specs.Prelude.{ℕ, ◌+◌, ◌-◌, ◌≤◌, ◌<◌, ◌≡◌, Bool, true, false, not, ◌&&◌, List, [], ◌∷◌, ◌++◌, length, take, drop, get_or, replicate, ltb, leb, eqb, Option, Some, None, Result, MatchResult}
use Rattle.words.specs.Words.{le, bytes}
use Rattle.words.specs.Buffers.{pick}
use Rattle.words.specs.Sameness.{same}
use Rattle.refusal.specs.Outcome.{position_of, Outcome, ok, err}
use Rattle.primitives.specs.Outpoints.{outpoint_bytes}
use Rattle.covenants.specs.Covenant as covenant
use Rattle.name_state.specs.State.{bit}
use Rattle.name_state.specs.Paper.{state_of, class_of, class_number}
use Rattle.name_state.specs.declared.NameState.{NameState}
use Rattle.name_state_codec.specs.Read.{read_state}
use Rattle.name_state_codec.specs.Paper.{decoded}
use Rattle.names.specs.Name.{name_hash}
use Rattle.names.specs.Blind.{blind_of}
use Rattle.links.specs.Verify.{Said, summary, stopped, Answer, verify_of}
use Rattle.replay.specs.declared.records.Entry.{Entry}
use Rattle.replay.specs.declared.records.UnknownEntry.{UnknownEntry}
use Rattle.replay.specs.declared.records.Record.{Record}
use Rattle.replay.specs.declared.compare.Judged.{Judged}

-- A record: an entry's number (1 byte), the argument's length (4 bytes) and the argument, the answer's length (4 bytes)
-- and the answer. An answer is a list of numbers of 8 bytes each, the lowest byte first, and bytes after them where the
-- entry has some:
--   1 a covenant that is the whole argument: number, three carried, position, kind, count, used
--   2 a covenant in the argument after 16 bytes, its allowance and its position: the same
--   3 a state under the argument's first 32 bytes, the rest is its record: number, three carried, position, class, the
--     name's length, the resource's; where it is accepted every field: height, renewal, value, highest, transfer,
--     revoked, claimed, renewals, the owner's index, registered, expired, weak; the owner's hash (32 bytes), the
--     name (63) and the resource (512), zeros past either length
--   4 links: the transaction sheet's length (4 bytes), the sheet, and the coin sheet: number, three carried, side,
--     inputs, linked, names; both outpoints of 12, 36 bytes each
--   5 a name's hash: number; 32 bytes
--   6 a blind commitment, of 8 value bytes and 32 nonce bytes: 32 bytes
-- `answer_of` is what our rules answer, as such bytes: the definitions are those that the entries' contracts cite.

-- the bytes from one place up to another
abbrev pub part : List ℕ → ℕ → ℕ → List ℕ
part s start end = take (end - start) (drop start s)

-- the arguments that an entry takes
unfoldable pub takes : ℕ → List ℕ → Bool
takes entry a =
    pick (eqb entry 1) true
    (pick (eqb entry 2) (leb 16 (length a))
    (pick (eqb entry 3) (leb 32 (length a))
    (pick (eqb entry 4) (leb 4 (length a) && leb (le (take 4 a)) (length a - 4))
    (pick (eqb entry 5) true
    (pick (eqb entry 6) (eqb (length a) 40) false)))))

-- an entry's number
abbrev pub entry_number : Entry → ℕ
entry_number Entry.WholeCovenant = 1
entry_number Entry.CovenantWithin = 2
entry_number Entry.State = 3
entry_number Entry.Links = 4
entry_number Entry.Name = 5
entry_number Entry.Blind = 6

-- the entry with a number, or an error where no entry has it
abbrev pub Numbered : ℕ → Result Entry UnknownEntry → Type 0
Numbered n r = MatchResult r (λ entry. entry_number entry ≡ n) (λ e. 0 < n → 6 < n)

-- a record's parts: its entry's number, where its argument starts and ends, and the place after the record
abbrev pub Parts : Type 0
Parts = ℕ × ℕ × ℕ × ℕ

abbrev pub record_paper : Option Record → Option Parts
record_paper (Some r) = Some (entry_number r.entry, r.start, r.end, r.next)
record_paper None = None

-- the record of an entry whose argument stands from `start` up to `end`
unfoldable pub answered_at : List ℕ → ℕ → ℕ → ℕ → Option Parts
answered_at s entry start end =
    let m : ℕ = le (take 4 (drop end s)) in
    pick (ltb (length s - end - 4) m) None
    (pick (takes entry (part s start end)) (Some (entry, start, end, end + 4 + m)) None)

-- the record at a place, or none: its bytes are not all there, or its entry does not take its argument
unfoldable pub record_at : List ℕ → ℕ → Option Parts
record_at s at =
    let n : ℕ = le (take 4 (drop (at + 1) s)) in
    pick (ltb (length s - at) 9) None
    (pick (ltb (length s - at - 9) n) None (answered_at s (get_or s at 0) (at + 5) (at + 5 + n)))

-- ---- what our rules answer

-- numbers of 8 bytes each
unfoldable pub numbers : List ℕ → List ℕ
numbers [] = []
numbers (v ∷ vs) = bytes 8 v ++ numbers vs

-- no refusal, and a refusal with three of what it carries: the numbers before the others
abbrev pub accepted : List ℕ → List ℕ
accepted others = 0 ∷ 0 ∷ 0 ∷ 0 ∷ others

abbrev pub refused : ℕ → List ℕ → List ℕ → List ℕ
refused k vs others = k ∷ get_or vs 0 0 ∷ get_or vs 1 0 ∷ get_or vs 2 0 ∷ others

abbrev pub covenant_numbers : Outcome covenant.Skimmed → List ℕ
covenant_numbers (ok said p) = accepted (p ∷ said.0 ∷ said.1 ∷ said.2 ∷ [])
covenant_numbers (err k vs p) = refused k vs (position_of p ∷ 0 ∷ 0 ∷ 0 ∷ [])

abbrev pub state_accepted : NameState → ℕ → List ℕ
state_accepted s p = accepted (p ∷ class_number (class_of (state_of s)) ∷ s.name_length ∷ s.resource_length ∷ [])

abbrev pub state_amounts : NameState → List ℕ
state_amounts s = s.height.0 ∷ s.renewal.0 ∷ s.value.0 ∷ s.highest.0 ∷ s.transfer.0 ∷ s.revoked.0 ∷ s.claimed.0 ∷ s.renewals ∷ []

abbrev pub state_flags : NameState → List ℕ
state_flags s = s.owner.index ∷ bit 1 s.registered ∷ bit 1 s.expired ∷ bit 1 s.weak ∷ []

abbrev pub state_owner : NameState → List ℕ
state_owner s = s.owner.transaction_hash.0

-- every field of a state
unfoldable pub state_fields : NameState → List ℕ
state_fields s = (numbers (state_amounts s) ++ (numbers (state_flags s) ++ state_owner s)) ++ (s.name ++ s.resource_data)

abbrev pub state_answer : Outcome NameState → List ℕ
state_answer (ok s p) = numbers (state_accepted s p) ++ state_fields s
state_answer (err k vs p) = numbers (refused k vs (position_of p ∷ 0 ∷ 0 ∷ 0 ∷ []))

abbrev pub links_numbers : Said → List ℕ
links_numbers (summary inputs linked names) = accepted (0 ∷ inputs ∷ linked ∷ names ∷ [])
links_numbers (stopped k vs side) = refused k vs (side ∷ 0 ∷ 0 ∷ 0 ∷ [])

unfoldable pub links_answer : Answer → List ℕ
links_answer a = numbers (links_numbers a.said) ++ (outpoint_bytes a.expected ++ outpoint_bytes a.actual)

abbrev pub name_answer : Outcome (List ℕ) → List ℕ
name_answer (ok hash p) = bytes 8 0 ++ hash
name_answer (err k vs p) = bytes 8 k ++ replicate 32 0

unfoldable pub answer_of : ℕ → List ℕ → List ℕ
answer_of entry a =
    pick (eqb entry 1) (numbers (covenant_numbers (covenant.skimmed (covenant.whole_covenant a))))
    (pick (eqb entry 2) (numbers (covenant_numbers (covenant.skimmed (covenant.covenant_at (le (take 8 a)) (drop 16 a) (le (take 8 (drop 8 a)))))))
    (pick (eqb entry 3) (state_answer (decoded (read_state (take 32 a) (drop 32 a))))
    (pick (eqb entry 4) (links_answer (verify_of (take (le (take 4 a)) (drop 4 a)) (drop (4 + le (take 4 a)) a)))
    (pick (eqb entry 5) (name_answer (name_hash a))
    (pick (eqb entry 6) (blind_of (le (take 8 a)) (drop 8 a)) [])))))

-- ---- what is told of a record

-- of a whole record: whether its answer is not ours, and the place after it
unfoldable pub compared_of : List ℕ → ℕ → ℕ → ℕ → ℕ → Judged
compared_of s entry start end next =
    record { differs = not (same (answer_of entry (part s start end)) (part s (end + 4) next)); next = next }

abbrev pub told_of : List ℕ → Option Parts → Option Judged
told_of s (Some parts) = Some (compared_of s parts.0 parts.1 parts.2 parts.3)
told_of s None = None

-- what is told of the record at a place
unfoldable pub judged_of : List ℕ → ℕ → Option Judged
judged_of s at = told_of s (record_at s at)

-- ---- words of the functions on the way

-- where the parts of a record lie whose argument does not stand before a place, and that its entry takes its argument
abbrev pub Inside : List ℕ → ℕ → Option Record → Type 0
Inside s at (Some r) =
    (at ≤ r.start) × (r.start ≤ r.end) × (r.end + 4 ≤ r.next) × (r.next ≤ length s) × (takes (entry_number r.entry) (part s r.start r.end) ≡ true)
Inside s at None = Unit {0}
