-- A directory that is filled item by item: what stands in it, and what is left to read.
use mathlib.Core.Path.{◌≡◌, refl, ap, sym, ◌∙◌}
use Prim.Native.Nat.{ℕ, suc, ◌+◌, ◌-◌, ◌≤◌, ◌<◌, min}
use native.Mathlib.Omega.{arith}
use mathlib.Core.List.{List, [], ◌∷◌, ◌++◌, map-append, append-nil}
use lib.ListN.{length, length-append, length-map, set, replicate}
use lib.Seq.{set-append_seam, append_snoc}
use Rattle.words.specs.Buffers.{zero_padded}
use Rattle.refusal.specs.Outcome.{Stand, Outcome, ok, err, then, past, many_at, list_of}
use Rattle.refusal.proofs.Outcomes.{never}
use Rattle.covenants.specs.Covenant.{item_at, head_at, Reading, Skimmed, finished, opening, covenant_at, skimmed}
use Rattle.covenants.specs.Paper.{listed, directory_of, decoded}
use Rattle.covenants.specs.Workers.{starts_of, lens_of, Filling}
use Rattle.covenants.proofs.Moves.{skim-body}

-- a directory of 1,000 with one more number
listed_more : (xs : List ℕ) (v : ℕ) → length xs < 1000 → set (listed xs) (length xs) v ≡ listed (xs ++ (v ∷ []))
unfolding zero_padded
listed_more xs v h =
    let k : 1000 - length xs ≡ suc (999 - length xs) = omega arith in
    let k' : 1000 - length (xs ++ (v ∷ [])) ≡ 999 - length xs = omega (arith, length-append xs (v ∷ [])) in
    rw (k, k', set-append_seam xs 0 (replicate (999 - length xs) 0) v) (sym (append_snoc xs v (replicate (999 - length xs) 0)))

then_same : {A : Type 0} (o : Outcome A) → then o ok ≡ o
then_same (ok a p) = refl
then_same (err k vs p) = refl

module _ (read : ℕ → Outcome (ℕ × ℕ)) where
  -- nothing was read yet
  pub begin : (start count from : ℕ) {starts lens : List ℕ} → start ≤ from → count ≤ 1000 → (starts ≡ listed []) × (lens ≡ listed []) → Filling read start count from starts lens from 0
  begin start count from h k zeros =
      let z : count - 0 ≡ count = omega arith in
      record
      { bound = omega arith; few = k; later = h; done = []; long = refl; firsts = zeros.0; sizes = zeros.1; rest = rw z (then_same (many_at read count from)) }

  module _ {start count from : ℕ} {starts lens : List ℕ} {at i : ℕ} (r : Filling read start count from starts lens at i) where
    -- the next item was read
    pub more : {part : ℕ × ℕ} {next : ℕ} → i < count → start ≤ next → read at ≡ ok part next
        → Filling read start count from (set starts i part.0) (set lens i part.1) next (i + 1)
    unfolding many_at
    more {part} {next} h later e =
        let k : count - i ≡ suc (count - (i + 1)) = omega arith in
        let done = r.done in
        let fs : length (starts_of done) ≡ i = length-map done (λ x. x.0) ∙ r.long in
        let ss : length (lens_of done) ≡ i = length-map done (λ x. x.1) ∙ r.long in
        record {
          bound = omega arith;
          few = r.few;
          later = later;
          done = done ++ (part ∷ []);
          long = length-append done (part ∷ []) ∙ omega (arith, r.long);
          firsts = rw (r.firsts, ← fs, map-append) (listed_more (starts_of done) part.0 (omega (arith, r.few)));
          sizes = rw (r.sizes, ← ss, map-append) (listed_more (lens_of done) part.1 (omega (arith, r.few)));
          rest = go (many_at read (count - (i + 1)) next) ∙ (rw (k, e) at r.rest);
        }
      where
        go : (o : Outcome (List (ℕ × ℕ))) → then o (λ more end. ok (r.done ++ (part ∷ []) ++ more) end)
            ≡ then (then o (λ items end. ok (part ∷ items) end)) (λ more end. ok (r.done ++ more) end)
        go (ok items end) = ap (λ l. ok l end) (append_snoc r.done part items)
        go (err k vs p) = refl

    -- the next item was refused
    pub stopped : {k : ℕ} {vs : List ℕ} {p : Stand} → i < count → read at ≡ err k vs p → err k vs p ≡ many_at read count from
    unfolding many_at
    stopped h e =
        let k : count - i ≡ suc (count - (i + 1)) = omega arith in
        rw (k, e) at r.rest

    -- all were read
    pub ended : count ≤ i → ok r.done at ≡ many_at read count from
    unfolding many_at
    ended h =
        let k : count - i ≡ 0 = omega (arith, r.bound) in
        ap (λ l. ok l at) (sym (append-nil r.done)) ∙ (rw k at r.rest)

    -- and the directory is theirs
    abbrev pub Kept : Outcome Unit → List ℕ → List ℕ → Type 0
    Kept o starts' lens' =
        (o ≡ past (many_at read count from))
        × ((starts' ≡ listed (starts_of (list_of (many_at read count from)))) × (lens' ≡ listed (lens_of (list_of (many_at read count from)))))

    pub all-kept : count ≤ i → Kept (ok tt at) starts lens
    all-kept h =
        let e = ended h in
        (ap past e, (r.firsts ∙ ap (λ o. listed (starts_of (list_of o))) e, r.sizes ∙ ap (λ o. listed (lens_of (list_of o))) e))

    pub none_kept : {k : ℕ} {vs : List ℕ} {p : Stand} {starts' lens' : List ℕ} → i < count → read at ≡ err k vs p → (starts' ≡ listed []) × (lens' ≡ listed []) → Kept (err k vs p) starts' lens'
    none_kept h f zeros =
        let e = stopped h f in
        (ap past e, (zeros.0 ∙ ap (λ o. listed (starts_of (list_of o))) e, zeros.1 ∙ ap (λ o. listed (lens_of (list_of o))) e))

-- ---- the directory of a covenant is that of its items

pub starts-kept : (o : Outcome (List (ℕ × ℕ))) (kind start : ℕ) → listed (starts_of (list_of o)) ≡ (directory_of (then o (finished kind start))).starts
unfolding directory_of
starts-kept (ok items end) kind start = refl
starts-kept (err k vs p) kind start = refl

pub lens-kept : (o : Outcome (List (ℕ × ℕ))) (kind start : ℕ) → listed (lens_of (list_of o)) ≡ (directory_of (then o (finished kind start))).lens
unfolding directory_of
lens-kept (ok items end) kind start = refl
lens-kept (err k vs p) kind start = refl

-- what a decoder says of an outcome, and both arrays that it leaves
abbrev pub Tells : Outcome Reading → Outcome Skimmed → List ℕ → List ℕ → Type 0
Tells o said starts lens = (said ≡ skimmed o) × ((starts ≡ (directory_of o).starts) × (lens ≡ (directory_of o).lens))

pub tells-same : {o o' : Outcome Reading} {said : Outcome Skimmed} {starts lens : List ℕ} → o ≡ o' → Tells o said starts lens → Tells o' said starts lens
tells-same e t = rw (← e) t

-- a refusal, and zeros
pub tells-refused : {o : Outcome Reading} {k : ℕ} {vs : List ℕ} {p : Stand} {starts lens : List ℕ} → o ≡ err k vs p → (starts ≡ listed []) × (lens ≡ listed []) → Tells o (err k vs p) starts lens
unfolding directory_of
tells-refused e zeros = rw e (refl, zeros)

-- a covenant from its head on
pub tells-kept : (limit : ℕ) (s : List ℕ) (at : ℕ) {start allowance : ℕ} → (start ≡ at) × (allowance ≡ min limit 1000009) → {head : ℕ × ℕ} {next : ℕ} → opening allowance s start (head_at allowance s start) ≡ ok head next
    → {said : Outcome Skimmed} {starts lens : List ℕ} → said ≡ skimmed (covenant_at limit s at)
    → (starts ≡ listed (starts_of (list_of (many_at (item_at allowance start s) head.1 next)))) × (lens ≡ listed (lens_of (list_of (many_at (item_at allowance start s) head.1 next))))
    → Tells (covenant_at limit s at) said starts lens
tells-kept limit s at {start} {allowance} made {head} {next} e said both =
    let items = many_at (item_at allowance start s) head.1 next in
    (said, rw (skim-body limit s at made e) (both.0 ∙ starts-kept items head.0 start, both.1 ∙ lens-kept items head.0 start))

-- ---- what is said of a covenant, and its directory, tell all of it

module _ {starts lens : List ℕ} where
  pub accepted-shown : (o : Outcome Reading) {kind count used p : ℕ} → ok (kind, count, used) p ≡ skimmed o → starts ≡ (directory_of o).starts → lens ≡ (directory_of o).lens
      → ok (record { kind = kind; count = count; starts = starts; lens = lens }, used) p ≡ decoded o
  unfolding directory_of
  accepted-shown (ok c q) {kind} {count} {used} {p} e f g =
      let said : ◌≡◌ {A = Skimmed} (kind, count, used) (c.kind, length c.items, c.used) = cc in
      let k : kind ≡ c.kind = ap (λ (x : Skimmed). x.0) said in
      let n : count ≡ length c.items = ap (λ (x : Skimmed). x.1) said in
      let u : used ≡ c.used = ap (λ (x : Skimmed). x.2) said in
      let z : p ≡ q = cc in
      rw (k, n, u, z, f, g)
  accepted-shown (err k vs q) e f g = absurd (never refl e)

-- ---- what is said of a covenant tells of the outcome

pub found : (o : Outcome Reading) {x : Skimmed} {p : ℕ} → skimmed o ≡ ok x p → (c : Reading) × (o ≡ ok c p)
found (ok c q) {x} {p} e = let h : q ≡ p = cc in (c, ap (ok c) h)
found (err k vs q) e = absurd (never e refl)

pub refused : (o : Outcome Reading) {k : ℕ} {vs : List ℕ} {p : Stand} → skimmed o ≡ err k vs p → o ≡ err k vs p
refused (ok c q) e = absurd (never refl e)
refused (err k vs q) e = cc
