-- What reading the parts of a sheet comes to, and what a part that was read tells.
use mathlib.Core.Path.{◌≡◌, refl, ap, ap₂, sym, ◌∙◌}
use Prim.Native.Nat.{ℕ, zero, suc, ◌+◌, ◌*◌, ◌/◌, ◌%◌, ◌^◌, ◌≤◌, ◌<◌}
use native.Mathlib.Omega.{arith}
use mathlib.Core.List.{List, ◌∷◌, Memᴰ}
use mathlib.Core.Bool.{Bool, true, false}
use lib.ListN.{length, take, drop, get_or}
use lib.Dec.{eqb}
use lib.Seq.{drop-cons}
use Rattle.std.proofs.lemmas.List.{drop_all}
use Rattle.std.specs.Int.{w32, w64, from_be_bytes}
use Rattle.words.specs.Words.{spell, be}
use Rattle.words.proofs.Le.{part-long}
use Rattle.refusal.proofs.Many.{many-somewhere}
use Rattle.refusal.specs.Outcome.{Stand, Outcome, ok, err, then, past, many_at}
use Rattle.refusal.proofs.Outcomes.{then_ok, then-assoc, never, past_next, past-cut, past-then}
use Rattle.encoding.specs.Wire.{slice_at, bytes_at}
use Rattle.encoding.proofs.Slice as slice
use Rattle.covenants.specs.Covenant.{Reading, Skimmed, covenant_at, skimmed, bytes_in}
use Rattle.covenants.proofs.Moves.{covenant-moves}
use Rattle.primitives.specs.declared.Outpoint.{Outpoint}
use Rattle.sheets.specs.Sheet.{field, input_at, place_body_at, place_at, gap, coin_at}
use Rattle.sheets.specs.Workers.{coin_output}
use Rattle.sheets.specs.declared.Place.{Place}

-- ---- numbers with the highest byte first

-- what bytes spell after v, from the k-th on, byte by byte
abbrev spelled : List ℕ → ℕ → ℕ → ℕ → ℕ
spelled bs v k zero = v
spelled bs v k (suc n) = spelled bs (v * 256 + get_or bs k 0) (suc k) n

spell-each : (bs : List ℕ) (v k n : ℕ) → k + n ≡ length bs → spell v (drop k bs) ≡ spelled bs v k n
unfolding spell
spell-each bs v k zero h = rw (drop_all k bs (omega arith))
spell-each bs v k (suc n) h = rw (drop-cons bs k 0 (omega arith)) (spell-each bs (v * 256 + get_or bs k 0) (suc k) n (omega arith))

-- the library's word for the number of bytes that are there is ours
module _ (s : List ℕ) (at : ℕ) {bs : List ℕ} where
  pub be_four : at + 4 ≤ length s → bs ≡ bytes_in s (at, 4) → from_be_bytes w32 bs ≡ be (bytes_in s (at, 4))
  be_four h e =
      let long : length bs ≡ 4 = ap length e ∙ part-long s at 4 h in
      let spelt : from_be_bytes w32 bs ≡ be bs = omega (arith, spell-each bs 0 0 4 (sym long)) in
      spelt ∙ ap be e

  pub be_eight : at + 8 ≤ length s → bs ≡ bytes_in s (at, 8) → from_be_bytes w64 bs ≡ be (bytes_in s (at, 8))
  be_eight h e =
      let long : length bs ≡ 8 = ap length e ∙ part-long s at 8 h in
      let spelt : from_be_bytes w64 bs ≡ be bs = omega (arith, spell-each bs 0 0 8 (sym long)) in
      spelt ∙ ap be e

-- ---- reading

-- a part that was read lies within
pub part_fits : (n : ℕ) (s : List ℕ) (at : ℕ) {part : ℕ × ℕ} {next : ℕ} → ok part next ≡ slice_at n s at → length s < 2 ^ 64 → at + n ≤ length s
part_fits n s at e big = (slice.read n s at big (sym e)).fits

-- a read of bytes that are not looked at
pub bytes-then : {B : Type 0} (n : ℕ) (s : List ℕ) (at : ℕ) (f : ℕ → Outcome B) → then (slice_at n s at) (λ part next. f next) ≡ then (bytes_at n s at) (λ bs next. f next)
unfolding bytes_at
bytes-then n s at f = sym (then-assoc (slice_at n s at) (λ part next. ok (take n (drop part.0 s)) next) (λ bs next. f next))

-- many are passed by passing each
pub each-past : {A : Type 0} (read : ℕ → Outcome A) (n at : ℕ) → past (many_at (λ from. past (read from)) n at) ≡ past (many_at read n at)
unfolding many_at
each-past read zero at = refl
each-past {A} read (suc n) at = go (each-past read n) (read at)
  where
    go : ((next : ℕ) → past (many_at (λ from. past (read from)) n next) ≡ past (many_at read n next)) → (o : Outcome A)
        → past (then (past o) (λ u next. then (many_at (λ from. past (read from)) n next) (λ us end. ok (u ∷ us) end)))
        ≡ past (then o (λ x next. then (many_at read n next) (λ xs end. ok (x ∷ xs) end)))
    go again (ok x next) = past-then (many_at (λ from. past (read from)) n next) (λ us. tt ∷ us) ∙ again next ∙ sym (past-then (many_at read n next) (λ xs. x ∷ xs))
    go again (err k vs p) = refl

-- a hash, and what is said of the covenant after it
module _ (value version size : ℕ) (s : List ℕ) (at : ℕ) {part : ℕ × ℕ} {covenant : ℕ} (hash : slice_at size s at ≡ ok part covenant) where
  placed : (o : Outcome Reading) {said : Skimmed} {end : ℕ} → covenant_at 1000009 s covenant ≡ o → skimmed o ≡ ok said end
      → place_body_at value version size s at ≡ ok (record { value = record { 0 = value }; address = record { version = version; start = part.0; len = part.1 }; covenant = covenant; kind = said.0 }) end
  unfolding place_body_at
  placed (ok c p) {said} {end} e f =
      let q : p ≡ end = cc in
      let same : ◌≡◌ {A = Skimmed} (c.kind, length c.items, c.used) said = cc in
      let kind : c.kind ≡ said.0 = ap (λ (x : Skimmed). x.0) same in
      rw (hash, e, q, kind)
  placed (err k vs p) e f = absurd (never f refl)

  pub body-placed : {said : Skimmed} {end : ℕ} → skimmed (covenant_at 1000009 s covenant) ≡ ok said end
      → place_body_at value version size s at ≡ ok (record { value = record { 0 = value }; address = record { version = version; start = part.0; len = part.1 }; covenant = covenant; kind = said.0 }) end
  body-placed f = placed (covenant_at 1000009 s covenant) refl f

  stopped : (o : Outcome Reading) {k : ℕ} {vs : List ℕ} {p : Stand} → covenant_at 1000009 s covenant ≡ o → skimmed o ≡ err k vs p → place_body_at value version size s at ≡ err k vs p
  unfolding place_body_at
  stopped (ok c q) e f = absurd (never refl f)
  stopped (err k' vs' q) e f = rw (hash, e) (cc)

  pub body-stopped : {k : ℕ} {vs : List ℕ} {p : Stand} → skimmed (covenant_at 1000009 s covenant) ≡ err k vs p → place_body_at value version size s at ≡ err k vs p
  body-stopped f = stopped (covenant_at 1000009 s covenant) refl f

-- a coin, from where its output stands
module _ (version : ℕ) (s : List ℕ) (at : ℕ) where
  pub coin-next : {next : ℕ} → coin_output version s at ≡ ok tt next → past (coin_at version s at) ≡ past (place_at 1 s next)
  unfolding coin_at coin_output
  coin-next {next} e =
      let w = then_ok (past (input_at s at)) e in
      let told = w.3 in
      let stands : w.1 + gap version ≡ next = cc in
      past_next (input_at s at) (λ next. place_at 1 s (next + gap version)) (λ outpoint place. (outpoint, place)) w.2 ∙ ap (λ (n : ℕ). past (place_at 1 s n)) stands

  -- nothing after the outpoint is refused
  only-outpoint : (o : Outcome Unit) {k : ℕ} {vs : List ℕ} {p : Stand} → ◌≡◌ {A = Outcome Unit} (then o (λ nothing next. ok tt (next + gap version))) (err k vs p) → o ≡ err k vs p
  only-outpoint (ok u next) e = absurd (never refl e)
  only-outpoint (err k vs p) e = e

  pub coin-cut : {k : ℕ} {vs : List ℕ} {p : Stand} → coin_output version s at ≡ err k vs p → past (coin_at version s at) ≡ err k vs p
  unfolding coin_at coin_output
  coin-cut e = past-cut (input_at s at) (λ next. place_at 1 s (next + gap version)) (λ outpoint place. (outpoint, place)) (only-outpoint (past (input_at s at)) e)

-- ---- what was read

-- a fixed field that was right
pub field-right : {A : Type 0} (t : Bool) (side offset : ℕ) (o : Outcome A) {a : A} {p : ℕ} → field t side offset o ≡ ok a p → (t ≡ true) × (o ≡ ok a p)
field-right true side offset o e = (refl, e)
field-right false side offset o e = absurd (never e refl)

-- an output that was read: its hash lies within, and its covenant can be read
pub record Placed (s : List ℕ) (at : ℕ) (p : Place) (next : ℕ) : Type 0 where
  pub fits : p.address.start + p.address.len ≤ length s
  pub reading : Reading
  pub covenant : covenant_at 1000009 s p.covenant ≡ ok reading next
  pub kind : p.kind ≡ reading.kind
  pub later : at < next
  pub ends : next ≤ length s

module _ (s : List ℕ) (big : length s < 2 ^ 64) where
  pub body-read : (value version size at : ℕ) {p : Place} {next : ℕ} → place_body_at value version size s at ≡ ok p next → Placed s at p next
  unfolding place_body_at
  body-read value version size at {p} {next} e =
      let hash = then_ok (slice_at size s at) e in
      let part = slice.read size s at big hash.2 in
      let c = then_ok (covenant_at 1000009 s hash.1) hash.3 in
      let moves = covenant-moves 1000009 s hash.1 big c.2 in
      let told = c.3 in
      let same : record { value = record { 0 = value }; address = record { version = version; start = hash.0.0; len = hash.0.1 }; covenant = hash.1; kind = c.0.kind } ≡ p = cc in
      let end : c.1 ≡ next = cc in
      let start : hash.0.0 ≡ p.address.start = ap (λ (q : Place). q.address.start) same in
      let long : hash.0.1 ≡ p.address.len = ap (λ (q : Place). q.address.len) same in
      let stands : hash.1 ≡ p.covenant = ap (λ (q : Place). q.covenant) same in
      record {
        fits = omega (arith, part.start, part.size, part.fits);
        reading = c.0;
        covenant = ap (covenant_at 1000009 s) (sym stands) ∙ c.2 ∙ ap (ok c.0) end;
        kind = sym (ap (λ (q : Place). q.kind) same);
        later = omega (arith, part.ends, moves.0);
        ends = omega (arith, moves.1);
      }

  pub place_read : (side at : ℕ) {p : Place} {next : ℕ} → place_at side s at ≡ ok p next → Placed s at p next
  unfolding place_at
  place_read side at {p} {next} e =
      let fields = then_ok (slice_at 10 s at) e in
      let part = slice.read 10 s at big fields.2 in
      let spare = field-right (eqb (get_or s (at + 9) 0 / 64) 0) side (at + 9) (place_body_at (be (bytes_in s (at, 8))) (get_or s (at + 8) 0) (get_or s (at + 9) 0 % 64) s fields.1) fields.3 in
      let b = body-read (be (bytes_in s (at, 8))) (get_or s (at + 8) 0) (get_or s (at + 9) 0 % 64) fields.1 spare.1 in
      record { fits = b.fits; reading = b.reading; covenant = b.covenant; kind = b.kind; later = omega (arith, part.ends, b.later); ends = b.ends }

  -- and so was each of a list
  pub places-read : (side n from : ℕ) {ps : List Place} {end : ℕ} → many_at (place_at side s) n from ≡ ok ps end → {p : Place} → Memᴰ p ps → (at : ℕ) × (next : ℕ) × Placed s at p next
  places-read side n from e m =
      let w = many-somewhere (place_at side s) n from e m in
      (w.0, w.1, place_read side w.0 w.2)

-- a coin that was read: its outpoint, and its output after it
pub record CoinRead (version : ℕ) (s : List ℕ) (at : ℕ) (c : Outpoint × Place) (next : ℕ) : Type 0 where
  pub middle : ℕ
  pub outpoint : input_at s at ≡ ok c.0 middle
  pub output : place_at 1 s (middle + gap version) ≡ ok c.1 next

pub coin-read : (version : ℕ) (s : List ℕ) (at : ℕ) {c : Outpoint × Place} {next : ℕ} → coin_at version s at ≡ ok c next → CoinRead version s at c next
unfolding coin_at
coin-read version s at {c} {next} e =
    let a = then_ok (input_at s at) e in
    let b = then_ok (place_at 1 s (a.1 + gap version)) a.3 in
    let told = b.3 in
    let pair : ◌≡◌ {A = Outpoint × Place} (a.0, b.0) c = cc in
    let end : b.1 ≡ next = cc in
    record {
      middle = a.1;
      outpoint = a.2 ∙ ap (λ x. ok x a.1) (ap (λ (x : Outpoint × Place). x.0) pair);
      output = b.2 ∙ ap₂ ok (ap (λ (x : Outpoint × Place). x.1) pair) end;
    }

-- an outpoint that was read takes its 36 bytes
pub input-moves : (s : List ℕ) (at : ℕ) {o : Outpoint} {next : ℕ} → length s < 2 ^ 64 → input_at s at ≡ ok o next → (next ≡ at + 36) × (next ≤ length s)
unfolding input_at
input-moves s at {o} {next} big e =
    let w = then_ok (slice_at 36 s at) e in
    let part = slice.read 36 s at big w.2 in
    let told = w.3 in
    let end : w.1 ≡ next = cc in
    (omega (arith, part.ends), omega (arith, part.ends, part.fits))

pub coins_read : (version : ℕ) (s : List ℕ) (n from : ℕ) {cs : List (Outpoint × Place)} {end : ℕ} → length s < 2 ^ 64 → many_at (coin_at version s) n from ≡ ok cs end → {c : Outpoint × Place} → Memᴰ c cs
    → (at : ℕ) × (next : ℕ) × Placed s at c.1 next
coins_read version s n from big e m =
    let w = many-somewhere (coin_at version s) n from e m in
    let c = coin-read version s w.0 w.2 in
    (c.middle + gap version, w.1, place_read s big 1 (c.middle + gap version) c.output)
