-- What was accepted stands there as it would be written.
use mathlib.Core.Path.{◌≡◌, ap}
use Prim.Native.Nat.{ℕ, ◌+◌, ◌-◌, ◌^◌, ◌≤◌, ◌<◌, min}
use native.Mathlib.Omega.{arith}
use native.Mathlib.Nat.{mod-eq_of_lt}
use mathlib.Core.List.{List, [], ◌∷◌}
use lib.ListN.{length, drop, length-append, length-drop, length-map}
use Rattle.words.specs.Words.{bytes, Bytes}
use Rattle.refusal.specs.Outcome.{ok, many_at}
use Rattle.encoding.specs.Wire.{varbytes}
use Rattle.encoding.specs.Joined.{joined}
use Rattle.encoding.proofs.Fixed.{fixed-under}
use Rattle.encoding.proofs.Found.{Found, join, found-fixed, found-most, found-slice, many-found}
use Rattle.covenants.specs.Covenant.{item_at, Reading, covenant_at, bytes_in, contents}
use Rattle.covenants.specs.Written.{covenant_bytes}
use Rattle.words.proofs.Le.{part-long}
use Rattle.covenants.proofs.Moves.{item-read, head_read, covenant_accepted}

-- how long it is
pub found-long : {s bs : List ℕ} {at p : ℕ} → Found s at bs p → at ≤ p → p ≤ length s → length bs ≡ p - at
found-long {s} {bs} {at} {p} f h k = omega (arith, ap length f.there, length-drop at s, length-drop p s, length-append bs (drop p s))

module _ (s : List ℕ) (small : Bytes s) (big : length s < 2 ^ 64) where
  found-item : (allowance start at : ℕ) {part : ℕ × ℕ} {next : ℕ} → item_at allowance start s at ≡ ok part next → Found s at (varbytes (bytes_in s part)) next
  unfolding varbytes
  found-item allowance start at {part} e =
      let i = item-read allowance start s big at e in
      let first = found-most s small big 1000000 at i.sized in
      let second = found-slice s small big part.1 i.begins i.read in
      let long : length (bytes_in s part) ≡ part.1 = part-long s part.0 part.1 (omega (arith, i.starts, i.ends, i.fits)) in
      rw long (join first second)

  found-items : (allowance start n at : ℕ) {xs : List (ℕ × ℕ)} {end : ℕ} → many_at (item_at allowance start s) n at ≡ ok xs end → Found s at (joined varbytes (contents s xs)) end
  found-items allowance start = many-found s (item_at allowance start s) varbytes (bytes_in s) (λ at part next e. found-item allowance start at e)

  pub found-covenant : (limit at : ℕ) {c : Reading} {end : ℕ} → covenant_at limit s at ≡ ok c end → Found s at (covenant_bytes c.kind (contents s c.items)) end
  unfolding bytes covenant_bytes
  found-covenant limit at {c} {end} e =
      let a = covenant_accepted limit s at e in
      let h = head_read (min limit 1000009) s at big a.head in
      let byte : c.kind < 256 = fixed-under 1 s at small h.kind in
      let kind = found-fixed s small big 1 at h.kind in
      let count = found-most s small big 1000 (at + 1) h.count in
      let items = found-items (min limit 1000009) at (length c.items) a.first a.items in
      let one : bytes 1 c.kind ≡ c.kind ∷ [] = rw mod-eq_of_lt in
      let many : length (contents s c.items) ≡ length c.items = length-map c.items (bytes_in s) in
      rw many (join (rw one at kind) (join count items))
