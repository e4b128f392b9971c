-- The theorems of specs/Theorems.antt.
use mathlib.Core.Path.{◌≡◌, refl, ap, sym, ◌∙◌}
use Prim.Native.Nat.{ℕ, ◌+◌, ◌-◌, ◌≤◌, min}
use native.Mathlib.Omega.{arith}
use mathlib.Core.List.{List, ◌++◌}
use lib.ListN.{length, take, drop, length-map}
use lib.Seq.{take_at, drop_at}
use borrow.Author.Tests.{le-ltb}
use Rattle.words.specs.Words.{Bytes}
use Rattle.words.specs.Buffers.{over}
use Rattle.refusal.specs.Outcome.{ok, wrote}
use Rattle.refusal.proofs.Outcomes.{next-ok}
use Rattle.encoding.specs.Wire.{compact_size}
use Rattle.encoding.specs.Theorems.{Lent}
use Rattle.encoding.proofs.Fixed.{fixed-under}
use Rattle.encoding.proofs.Compact.{put-room}
use Rattle.encoding.proofs.Back.{Stands, stands_here, stands-next}
use Rattle.covenants.specs.Covenant.{Reading, covenant_at, contents, bytes_in}
use Rattle.covenants.specs.Written.{covenant_bytes, items_size, covenant_size, parts, Held, size_answer, directory_bytes, encode_answer, encode_content}
use Rattle.covenants.specs.Paper.{listed, directory_of}
use Rattle.covenants.specs.Workers.{starts_of, lens_of}
use Rattle.covenants.specs.Theorems.{Meant, written, Writable, AcceptedIsWritable, WritableIsAccepted, EncodeWrites, DirectoryIsTable, WrittenAgain, CovenantReadsBack, AcceptedIsWritten, UsedIsSize, SizeIsLength, AllowanceGrows, FindFindsItem, DirectoryHoldsItem}
use Rattle.covenants.proofs.Moves.{head_read, covenant_accepted, covenant-moves}
use Rattle.covenants.proofs.Checks.{length-parts, covenant-long, checks-passed, size_is, answer-is, content-is}
use Rattle.covenants.proofs.Writable.{held-passes, sizes-pass, written-long, parts-listed, items_lie}
use Rattle.covenants.proofs.Back.{Again, covenant-back}
use Rattle.covenants.proofs.Again.{found-long, found-covenant}
use Rattle.covenants.proofs.Agree.{seek_finds, directory-holds}
use Rattle.covenants.proofs.Grows.{covenant-grows, at-largest}

pub size-is-length : SizeIsLength
size-is-length c = covenant-long c.kind c.items

pub accepted-is-writable : AcceptedIsWritable
accepted-is-writable kind source starts lens count size small e =
    let p = checks-passed source starts lens count e in
    let ps = parts starts lens 0 count in
    let many : length (contents source ps) ≡ count = length-map ps (bytes_in source) ∙ length-parts starts lens 0 count in
    record { kind = small; count = omega (arith, many, p.few); short = p.short; size = omega (arith, p.size kind, p.most) }

pub writable-is-accepted : WritableIsAccepted
unfolding size_answer covenant_size
writable-is-accepted c source starts lens w means held =
    let n : ℕ = length c.items in
    let ps : List (ℕ × ℕ) = parts starts lens 0 n in
    let size : length (written c) ≡ 1 + compact_size n + items_size (contents source ps) = size-is-length c ∙ ap (λ xs. 1 + compact_size n + items_size xs) (sym means) in
    let e = sizes-pass source (1 + compact_size n) ps held (rw means w.short) (omega (arith, w.size)) in
    rw (le-ltb 1000 n w.count, held-passes (length source) 0 ps held) (e ∙ ap wrote (sym size))

-- what the writer put stands at the buffer's start, and the rest of the buffer is as it was
pub encode-writes : EncodeWrites
unfolding encode_answer encode_content over
encode-writes kind source starts lens count d n small e =
    let bs : List ℕ = directory_bytes kind source starts lens count in
    let w = next-ok (size_answer source starts lens count) e in
    let long : length bs ≡ n = written-long 0 bs d w.2 in
    let end : 0 + length bs ≡ n = omega arith in
    record {
      holds = rw e (take_at bs (drop (0 + length bs) d) n long);
      size = sym long;
      rest = rw e (drop_at bs (drop (0 + length bs) d) n long ∙ ap (λ k. drop k d) end);
      writable = accepted-is-writable kind source starts lens count w.0 small w.1;
    }

pub directory-is-table : DirectoryIsTable
directory-is-table kind source starts lens count d p q =
    record { size = size_is source starts lens count p q; answer = answer-is source starts lens count p q kind d; content = content-is source starts lens count p q kind d }

-- a covenant that stands somewhere is read there
read_here : (s : List ℕ) (at : ℕ) (c : Meant) (rest : List ℕ) → Writable c → Lent s → Stands s at (written c) rest → Again s c.kind c.items at
read_here s at c rest w big h =
    covenant-back s big c.kind c.items at rest w.kind w.count w.short (omega (arith, size-is-length c, w.size)) h

pub covenant-reads-back : CovenantReadsBack
covenant-reads-back c before rest w big =
    let s : List ℕ = before ++ (written c ++ rest) in
    let h = stands_here before (written c) rest in
    let a = read_here s (length before) c rest w big h in
    let n = size-is-length c in (
      a.reading,
      a.reads ∙ ap (λ k. ok a.reading (length before + k)) (sym n),
      a.same_kind,
      a.same-items,
      a.used ∙ sym n,
      stands-next s (length before) (written c) rest (length (written c)) refl h,
    )

-- how long what was accepted is
accepted-long : (limit : ℕ) (s : List ℕ) (at : ℕ) {r : Reading} {end : ℕ} → Bytes s → Lent s → covenant_at limit s at ≡ ok r end
    → (length (covenant_bytes r.kind (contents s r.items)) ≡ end - at) × (at + 2 ≤ end)
accepted-long limit s at small big e =
    let m = covenant-moves limit s at (omega arith) e in
    (found-long (found-covenant s small (omega arith) limit at e) (omega arith) m.1, m.0)

pub accepted-is-written : AcceptedIsWritten
accepted-is-written limit s at r end small big e =
    let bs : List ℕ = covenant_bytes r.kind (contents s r.items) in
    let f = found-covenant s small (omega arith) limit at e in
    sym (ap (take (end - at)) f.there ∙ take_at bs (drop end s) (end - at) (accepted-long limit s at small big e).0)

pub used-is-size : UsedIsSize
used-is-size limit s at r end small big e =
    let n = accepted-long limit s at small big e in
    let used = (covenant_accepted limit s at e).used in
    (used ∙ sym n.0 ∙ covenant-long r.kind (contents s r.items), omega arith)

-- a covenant that was read is writable
accepted-writable : (limit : ℕ) (s : List ℕ) (at : ℕ) {r : Reading} {end : ℕ} → Bytes s → Lent s → covenant_at limit s at ≡ ok r end
    → Writable (record { kind = r.kind; items = contents s r.items }) × Held (length s) r.items
accepted-writable limit s at {r} {end} small big e =
    let a = covenant_accepted limit s at e in
    let h = head_read (min limit 1000009) s at (omega arith) a.head in
    let i = items_lie (min limit 1000009) at s (omega arith) (length r.items) a.first a.items in
    let n = accepted-long limit s at small big e in
    let most : end - at ≤ min limit 1000009 = i.spent (omega (arith, h.later)) h.spent in
    let many : length (contents s r.items) ≡ length r.items = length-map r.items (bytes_in s) in
    (record { kind = fixed-under 1 s at small h.kind; count = rw many h.few; short = i.short; size = omega (arith, n.0) }, i.held)

-- the writer's answer where there is room
written-room : (kind : ℕ) (source starts lens : List ℕ) (count : ℕ) (d : List ℕ) {n : ℕ} → size_answer source starts lens count ≡ wrote n → length (directory_bytes kind source starts lens count) ≡ n
    → n ≤ length d → encode_answer kind source starts lens count d ≡ wrote n
unfolding encode_answer
written-room kind source starts lens count d {n} e long h = rw e (sym (put-room 0 (directory_bytes kind source starts lens count) d n long (omega arith) refl).0)

pub written-again : WrittenAgain
unfolding directory_of
written-again limit s at r end small big e =
    let xs : List (ℕ × ℕ) = r.items in
    let starts : List ℕ = listed (starts_of xs) in
    let lens : List ℕ = listed (lens_of xs) in
    let count : ℕ = length xs in
    let same : parts starts lens 0 count ≡ xs = parts-listed xs in
    let many : length (contents s xs) ≡ count = length-map xs (bytes_in s) in
    let w = accepted-writable limit s at small big e in
    let used = (covenant_accepted limit s at e).used in
    let long : length (directory_bytes r.kind s starts lens count) ≡ r.used = rw same ((accepted-long limit s at small big e).0 ∙ sym used) in
    let means : directory_bytes r.kind s starts lens count ≡ take r.used (drop at s) = rw (same, used) (accepted-is-written limit s at r end small big e) in
    let size : size_answer s starts lens count ≡ wrote r.used =
    (rw many at (writable-is-accepted (record { kind = r.kind; items = contents s xs }) s starts lens w.0 (rw (many, same)) (rw (many, same) w.1)))
    ∙ ap wrote ((rw same at long)) in
    let answer : (d : List ℕ) → r.used ≤ length d → encode_answer r.kind s starts lens count d ≡ wrote r.used = λ d h. written-room r.kind s starts lens count d size long h in
    record {
      size = size;
      means = means;
      answer = answer;
      holds = λ d h. (encode-writes r.kind s starts lens count d r.used w.0.kind (answer d h)).holds ∙ means;
    }

-- ---- items

pub allowance-grows : AllowanceGrows
allowance-grows limit limit' s at r end h e = covenant-grows limit limit' s at h e

pub find-finds-item : FindFindsItem
find-finds-item limit s at index r end e = seek_finds s at index (at-largest limit s at e)

pub directory-holds-item : DirectoryHoldsItem
directory-holds-item limit s at index r end big e = directory-holds limit s at index big e
