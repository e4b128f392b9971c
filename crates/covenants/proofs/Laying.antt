-- A covenant that is laid over a buffer: its kind and count, and its items one after the other.
use mathlib.Core.Path.{◌≡◌, refl, ap, sym, ◌∙◌}
use Prim.Native.Nat.{ℕ, ◌+◌, ◌-◌, ◌≤◌, ◌<◌}
use native.Mathlib.Omega.{arith}
use native.Mathlib.Nat.{mod-eq_of_lt}
use mathlib.Core.List.{List, [], ◌∷◌, ◌++◌, append_assoc, append-nil}
use lib.ListN.{length, take, drop, get_or, length-append, length-map}
use Rattle.words.specs.Words.{bytes}
use Rattle.words.specs.Buffers.{over, laid}
use Rattle.words.proofs.Over.{laid-over, length_over}
use Rattle.words.proofs.Laid.{Laid, over_nothing, both}
use Rattle.refusal.specs.Outcome.{Wrote, wrote, refused}
use Rattle.encoding.specs.Wire.{compact, compact_size, varbytes}
use Rattle.encoding.specs.Joined.{joined}
use Rattle.encoding.proofs.Compact.{form1, length-compact, put-room, put-none}
use Rattle.covenants.specs.Covenant.{bytes_in, contents}
use Rattle.covenants.specs.Written.{covenant_bytes, parts, Held, table_size, table_bytes, table_answer, table_content}
use Rattle.covenants.proofs.Checks.{parts_more, parts_none, length-parts}

-- what is laid where there is room
laid-here : (at : ℕ) (bs d : List ℕ) {d' : List ℕ} {end : ℕ} → at + length bs ≤ length d → end ≡ at + length bs → d' ≡ laid at bs d → Laid d at bs d' end
laid-here at bs d h p e = record { ends = p; holds = e ∙ laid-over at bs d (length bs) refl h }

laid-long : {d d' bs : List ℕ} {at end : ℕ} → Laid d at bs d' end → at + length bs ≤ length d → length d' ≡ length d
laid-long {d} {d'} {bs} {at} l h = ap length l.holds ∙ length_over at bs d h

-- an item of the source, its length and its bytes
pub item-laid : (source : List ℕ) (from n at : ℕ) (d : List ℕ) {d' : List ℕ} → at + length (varbytes (bytes_in source (from, n))) ≤ length d
    → d' ≡ laid at (varbytes (take (from + n - from) (drop from source))) d → d' ≡ over at (varbytes (bytes_in source (from, n))) d
item-laid source from n at d h e =
    let k : from + n - from ≡ n = omega arith in
    e ∙ rw k (laid-over at (varbytes (bytes_in source (from, n))) d (length (varbytes (bytes_in source (from, n)))) refl h)

-- an empty item is its length alone
pub empty-laid : (source : List ℕ) (from n at : ℕ) (d : List ℕ) {d' : List ℕ} → n ≡ 0 → at + length (varbytes (bytes_in source (from, n))) ≤ length d
    → d' ≡ laid at (compact 0) d → (at + 1 ≡ at + length (varbytes (bytes_in source (from, n)))) × (d' ≡ over at (varbytes (bytes_in source (from, n))) d)
unfolding varbytes
empty-laid source from n at d e h f =
    let none : varbytes (bytes_in source (from, n)) ≡ compact 0 = ap (λ (k : ℕ). varbytes (take k (drop from source))) e ∙ append-nil (compact 0) in
    let one : length (compact 0) ≡ 1 = length-compact 0 ∙ (form1 0 (omega arith)).1 in
    let long = ap length none in
    let room : at + length (compact 0) ≤ length d = omega arith in
    (omega arith, f ∙ laid-over at (compact 0) d (length (compact 0)) refl room ∙ ap (λ (bs : List ℕ). over at bs d) (sym none))

-- after i of count items: what was laid, and what is left to lay
pub record Putting (source starts lens : List ℕ) (first count place : ℕ) (d₀ d : List ℕ) (at i : ℕ) : Type 0 where
  pub bound : i ≤ count
  pub kept : length d ≡ length d₀
  pub held : Held (length source) (parts starts lens (first + i) (count - i))
  pub done : List ℕ
  pub so_far : Laid d₀ place done d at
  pub rest : done ++ joined varbytes (contents source (parts starts lens (first + i) (count - i))) ≡ joined varbytes (contents source (parts starts lens first count))
  pub room : place + length (joined varbytes (contents source (parts starts lens first count))) ≤ length d₀

module _ (source starts lens : List ℕ) (first count place : ℕ) (d₀ : List ℕ) where
  abbrev Whole : List ℕ
  Whole = joined varbytes (contents source (parts starts lens first count))

  abbrev Left : ℕ → List ℕ
  Left i = joined varbytes (contents source (parts starts lens (first + i) (count - i)))

  abbrev One : ℕ → List ℕ
  One i = varbytes (bytes_in source (get_or starts (first + i) 0, get_or lens (first + i) 0))

  pub begin : Held (length source) (parts starts lens first count) → place + length Whole ≤ length d₀ → Putting source starts lens first count place d₀ d₀ place 0
  begin h room =
      let z : count - 0 ≡ count = omega arith in
      let o : first + 0 ≡ first = omega arith in
      record {
        bound = omega arith;
        kept = refl;
        held = rw (z, o) h;
        done = [];
        so_far = record { ends = omega arith; holds = sym (over_nothing place d₀) };
        rest = rw (z, o);
        room = room;
      }

  module _ {d : List ℕ} {at i : ℕ} (r : Putting source starts lens first count place d₀ d at i) where
    module _ (h : i < count) where
      step : parts starts lens (first + i) (count - i) ≡ (get_or starts (first + i) 0, get_or lens (first + i) 0) ∷ parts starts lens (first + (i + 1)) (count - (i + 1))
      step = parts_more starts lens (first + i) (omega arith) (omega arith)

      held-here : (get_or starts (first + i) 0 + get_or lens (first + i) 0 ≤ length source) × Held (length source) (parts starts lens (first + (i + 1)) (count - (i + 1)))
      held-here = rw step at r.held

      pub next-held : get_or starts (first + i) 0 + get_or lens (first + i) 0 ≤ length source
      next-held = held-here.0

      split : Left i ≡ One i ++ Left (i + 1)
      unfolding joined
      split = rw step

      sum : length r.done + length (One i) + length (Left (i + 1)) ≡ length Whole
      sum =
          let a = sym (ap length r.rest) ∙ length-append r.done (Left i) in
          let b = ap length split ∙ length-append (One i) (Left (i + 1)) in
          omega arith

      pub next_fits : at + length (One i) ≤ length d
      next_fits = omega (arith, sum, r.kept, r.so_far.ends, r.room)

      pub more : {d' : List ℕ} {at' : ℕ} → at' ≡ at + length (One i) → d' ≡ over at (One i) d → Putting source starts lens first count place d₀ d' at' (i + 1)
      more {d'} {at'} p e =
          let long = length-append r.done (One i) in
          let s = sum in
          let here : Laid d at (One i) d' at' = record { ends = p; holds = e } in
          record {
            bound = omega arith;
            kept = laid-long here next_fits ∙ r.kept;
            held = held-here.1;
            done = r.done ++ One i;
            so_far = both (omega (arith, r.room)) r.so_far here;
            rest = append_assoc r.done (One i) (Left (i + 1)) ∙ ap (λ l. r.done ++ l) (sym split) ∙ r.rest;
            room = r.room;
          }

    pub ended : count ≤ i → d ≡ over place Whole d₀
    unfolding joined
    ended h =
        let k : count - i ≡ 0 = omega (arith, r.bound) in
        let all : r.done ≡ Whole = sym (append-nil r.done) ∙ (rw (parts_none starts lens (first + i) k) at r.rest) in
        r.so_far.holds ∙ ap (λ bs. over place bs d₀) all

-- the kind, the count and the items
pub whole-laid : (at kind : ℕ) (source : List ℕ) (ps : List (ℕ × ℕ)) (n : ℕ) (d : List ℕ) {d₁ d₂ d₃ : List ℕ} {place : ℕ} → length ps ≡ n → kind < 256
    → at + length (covenant_bytes kind (contents source ps)) ≤ length d → place ≡ at + 1 + compact_size n
    → d₁ ≡ laid at (bytes 1 kind) d → d₂ ≡ laid (at + 1) (compact n) d₁ → d₃ ≡ over place (joined varbytes (contents source ps)) d₂
    → d₃ ≡ over at (covenant_bytes kind (contents source ps)) d
unfolding bytes covenant_bytes
whole-laid at kind source ps n d {d₁} {d₂} {d₃} {place} many byte fits p e₁ e₂ e₃ =
    let xs : List ℕ = joined varbytes (contents source ps) in
    let few : length (contents source ps) ≡ n = length-map ps (bytes_in source) ∙ many in
    let one : bytes 1 kind ≡ kind ∷ [] = rw mod-eq_of_lt in
    let two : length (compact n) ≡ compact_size n = length-compact n in
    let whole : covenant_bytes kind (contents source ps) ≡ kind ∷ (compact n ++ xs) = rw few in
    let room : at + (1 + compact_size n + length xs) ≤ length d = omega (arith, ap length whole, length-append (compact n) xs) in
    let a : Laid d at (kind ∷ []) d₁ (at + 1) = laid-here at (kind ∷ []) d (omega arith) refl (e₁ ∙ ap (λ bs. laid at bs d) one) in
    let l₁ : length d₁ ≡ length d = laid-long a (omega arith) in
    let b : Laid d₁ (at + 1) (compact n) d₂ place = laid-here (at + 1) (compact n) d₁ (omega arith) (omega arith) e₂ in
    let sum = length-append (compact n) xs in
    let c : Laid d at (kind ∷ compact n) d₂ place = both (omega arith) a b in
    let x : Laid d₂ place xs d₃ (place + length xs) = record { ends = refl; holds = e₃ } in
    let y : Laid d at (kind ∷ (compact n ++ xs)) d₃ (place + length xs) = both (omega arith) c x in
    y.holds ∙ ap (λ bs. over at bs d) (sym whole)

-- room for the whole, and where the items begin
pub items-room : (at kind : ℕ) (source starts lens : List ℕ) (first count room : ℕ) {place : ℕ} → place ≡ at + 1 + compact_size count → at + length (table_bytes kind source starts lens first count) ≤ room
    → place + length (joined varbytes (contents source (parts starts lens first count))) ≤ room
unfolding covenant_bytes
items-room at kind source starts lens first count room {place} p h =
    let ps : List (ℕ × ℕ) = parts starts lens first count in
    let xs : List ℕ = joined varbytes (contents source ps) in
    let n = length (contents source ps) in
    let few : n ≡ count = length-map ps (bytes_in source) ∙ length-parts starts lens first count in
    omega (arith, length-append (compact n) xs, length-compact n, ap compact_size few)

-- ---- the writer's answer, and what the buffer holds in the end

module _ (at kind : ℕ) (source starts lens : List ℕ) (first count : ℕ) (d : List ℕ) where
  abbrev Bytes : List ℕ
  Bytes = table_bytes kind source starts lens first count

  abbrev Answers : Wrote → List ℕ → Type 0
  Answers w d' = (w ≡ table_answer at kind source starts lens first count d) × (d' ≡ table_content at kind source starts lens first count d)

  pub encode-refused : {k : ℕ} {vs : List ℕ} → table_size source starts lens first count ≡ refused k vs → Answers (refused k vs) d
  unfolding table_answer table_content
  encode-refused e = (rw e, rw e)

  module _ {n : ℕ} (e : table_size source starts lens first count ≡ wrote n) (long : length Bytes ≡ n) where
    pub encode-none : length d < at + n → Answers (refused 29 (n ∷ [])) d
    unfolding table_answer table_content
    encode-none h =
        let w = put-none at Bytes d n long (omega arith) in
        (rw e w.0, rw (e, ← w.0))

    pub encode-room : at + n ≤ length d → {d' : List ℕ} → d' ≡ over at Bytes d → Answers (wrote n) d'
    unfolding table_answer table_content
    encode-room h f =
        let w = put-room at Bytes d n long (omega arith) f in
        (rw e w.0, rw (e, ← w.0) f)
