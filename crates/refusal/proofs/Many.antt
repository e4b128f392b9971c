-- Reads of the same kind, one after the other: a loop that only passes them, and a loop that walks a list that was
-- read.
use mathlib.Core.Path.{◌≡◌, refl, ap, sym, subst, ◌∙◌}
use Prim.Native.Nat.{ℕ, zero, suc, ◌+◌, ◌-◌, ◌≤◌, ◌<◌}
use native.Mathlib.Omega.{arith}
use mathlib.Core.Logic.{⊎_elim}
use mathlib.Core.List.Memᴰ
use mathlib.Core.List.{List, [], ◌∷◌, ◌++◌, Memᴰ}
use lib.ListN.{length}
use Rattle.refusal.specs.Outcome.{Stand, Outcome, ok, err, then, many_at, past}
use Rattle.refusal.proofs.Outcomes.{then_ok, past-then}

module _ {A : Type 0} (read : ℕ → Outcome A) where
  -- as many as were asked for
  pub many-long : (n at : ℕ) {xs : List A} {end : ℕ} → many_at read n at ≡ ok xs end → length xs ≡ n
  unfolding many_at
  many-long zero at {xs} {end} e = let h : [] ≡ xs = cc in ap length (sym h)
  many-long (suc n) at {xs} {end} e =
      let one = then_ok (read at) e in
      let others = then_ok (many_at read n one.1) one.3 in
      let h : one.0 ∷ others.0 ≡ xs = cc in
      ap length (sym h) ∙ ap suc (many-long n one.1 others.2)

  -- the first of a list that was read, and the others
  pub record Next (n at : ℕ) (xs : List A) (end : ℕ) : Type 0 where
    pub first : A
    pub next : ℕ
    pub others : List A
    pub split : xs ≡ first ∷ others
    pub here : read at ≡ ok first next
    pub rest : many_at read n next ≡ ok others end

  pub many-next : {n n' at : ℕ} {xs : List A} {end : ℕ} → n' ≡ suc n → many_at read n' at ≡ ok xs end → Next n at xs end
  unfolding many_at
  many-next {n} {n'} {at} {xs} {end} p e =
      let one = then_ok (read at) (rw p at e) in
      let others = then_ok (many_at read n one.1) one.3 in
      let h : one.0 ∷ others.0 ≡ xs = cc in
      let q : others.1 ≡ end = cc in
      record { first = one.0; next = one.1; others = others.0; split = sym h; here = one.2; rest = others.2 ∙ ap (ok others.0) q }

  pub many-none : {n : ℕ} (at : ℕ) {xs : List A} {end : ℕ} → n ≡ 0 → many_at read n at ≡ ok xs end → xs ≡ []
  unfolding many_at
  many-none at p e = let f = (rw p at e) in cc

  -- after i of n: what is left to pass gives the whole
  pub record Passing (n from at i : ℕ) : Type 0 where
    pub bound : i ≤ n
    pub rest : past (many_at read (n - i) at) ≡ past (many_at read n from)

  pub begin : (n from : ℕ) → Passing n from from 0
  begin n from = let z : n - 0 ≡ n = omega arith in record { bound = omega arith; rest = rw z }

  module _ {n from at i : ℕ} (r : Passing n from at i) where
    again : {x : A} {next : ℕ} → i < n → read at ≡ ok x next → past (many_at read (n - i) at) ≡ past (many_at read (n - (i + 1)) next)
    unfolding many_at
    again {x} {next} h e =
        let k : n - i ≡ suc (n - (i + 1)) = omega arith in
        rw (k, e) (go (many_at read (n - (i + 1)) next))
      where
        go : (o : Outcome (List A)) → past (then o (λ xs end. ok (x ∷ xs) end)) ≡ past o
        go (ok xs end) = refl
        go (err k vs p) = refl

    pub more : {x : A} {next : ℕ} → i < n → read at ≡ ok x next → Passing n from next (i + 1)
    more h e = record { bound = omega arith; rest = sym (again h e) ∙ r.rest }

    pub stopped : {k : ℕ} {vs : List ℕ} {p : Stand} → i < n → read at ≡ err k vs p → past (many_at read n from) ≡ err k vs p
    unfolding many_at
    stopped h e =
        let k : n - i ≡ suc (n - (i + 1)) = omega arith in
        sym (rw (k, e) at r.rest)

    pub ended : n ≤ i → past (many_at read n from) ≡ ok tt at
    unfolding many_at
    ended h =
        let k : n - i ≡ 0 = omega (arith, r.bound) in
        sym (rw k at r.rest)

module _ {A : Type 0} (read : ℕ → Outcome A) where
  -- the k-th of a list that was read: what was read before it, and its own read
  pub record Member (k from : ℕ) (xs : List A) : Type 0 where
    pub front : List A
    pub item : A
    pub back : List A
    pub start : ℕ
    pub next : ℕ
    pub split : xs ≡ front ++ (item ∷ back)
    pub before : many_at read k from ≡ ok front start
    pub here : read start ≡ ok item next

  pub many-member : (k n from : ℕ) {xs : List A} {end : ℕ} → k < n → many_at read n from ≡ ok xs end → Member k from xs
  unfolding many_at
  many-member k zero from h e = absurd (omega arith)
  many-member zero (suc n) from h e =
      let w = many-next read {n = n} {n' = suc n} refl e in
      record { front = []; item = w.first; back = w.others; start = from; next = w.next; split = w.split; before = refl; here = w.here }
  many-member (suc k) (suc n) from h e =
      let w = many-next read {n = n} {n' = suc n} refl e in
      let m = many-member k n w.next (omega arith) w.rest in
      record {
        front = w.first ∷ m.front;
        item = m.item;
        back = m.back;
        start = m.start;
        next = m.next;
        split = w.split ∙ ap (λ l. w.first ∷ l) m.split;
        before = rw (w.here, m.before);
        here = m.here;
      }

  -- each of a list that was read was read somewhere
  pub many-somewhere : (n from : ℕ) {xs : List A} {end : ℕ} → many_at read n from ≡ ok xs end → {x : A} → Memᴰ x xs → (at : ℕ) × (next : ℕ) × (read at ≡ ok x next)
  many-somewhere zero from {xs} e {x} m =
      let none = many-none read from refl e in
      absurd (Memᴰ.not-nil (subst (λ l. Memᴰ x l) none m))
  many-somewhere (suc n) from {xs} e {x} m =
      let w = many-next read {n = n} {n' = suc n} refl e in
      ⊎_elim
      (λ (h : x ≡ w.first). (from, w.next, w.here ∙ ap (λ y. ok y w.next) (sym h)))
      (λ (h : Memᴰ x w.others). many-somewhere n w.next w.rest h)
      (Memᴰ.cases_cons (subst (λ l. Memᴰ x l) w.split m))

-- the first of several reads is passed
pub past_first : {A : Type 0} (read : ℕ → Outcome A) {n n' at next : ℕ} {x : A} → n' ≡ suc n → read at ≡ ok x next → past (many_at read n' at) ≡ past (many_at read n next)
unfolding many_at
past_first read {n} {n'} {at} {next} {x} p e = rw (p, e) (past-then (many_at read n next) (λ xs. x ∷ xs))
