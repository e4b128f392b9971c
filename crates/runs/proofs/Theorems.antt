-- The theorems of specs/Theorems.antt.
use Rattle.std.proofs.Common.{◌≡◌, ℕ, zero, suc, ◌+◌, ◌%◌, ◌^◌, ◌≤◌, List, [], ◌++◌, length, take, drop, sym, refl, ap, ◌∙◌, ap₂, append-nil, arith, take-append-drop}
use lib.Seq.{take-append_seam, take-append-le, drop-append_seam}
use Rattle.words.proofs.Cases.{by_order}
use Rattle.refusal.specs.Outcome.{ok}
use Rattle.covenants.specs.Covenant.{Reading, Skimmed, covenant_at, contents}
use Rattle.covenants.specs.Written.{covenant_size}
use Rattle.covenants.specs.Theorems.{Meant, written, Writable}
use Rattle.covenants.proofs.Moves.{covenant-moves}
use Rattle.covenants.proofs.Theorems.{size-is-length, covenant-reads-back}
use Rattle.runs.specs.Run.{Advance, handed, count_after, step_at}
use Rattle.runs.specs.Theorems.{CovenantsArePrefixFree, RunHasOneReading, StepsAreTheRun, CountNeverWraps}
use Rattle.runs.proofs.Steps.{run-last, run_more}
use Rattle.runs.proofs.Covenants.{Skim, skim-last, skim-handed}
use Rattle.runs.proofs.OneReading.{one-reading}

-- ---- demand 3

-- of two covenants, each with what follows it, that are the same bytes: the shorter one is the other
begins : (c d : Meant) (r r' : List ℕ) → Writable c → Writable d → length (written c) ≤ length (written d) → written c ++ r ≡ written d ++ r' → c ≡ d
begins c d r r' wc wd h e =
    let n : ℕ = length (written c) in
    let s : List ℕ = written d in
    let front : written c ≡ take n s = sym (take-append_seam (written c) r) ∙ ap (take n) e ∙ take-append-le n s r' h in
    let split : written c ++ drop n s ≡ s = ap (λ x. x ++ drop n s) front ∙ take-append-drop n s in
    let whole : written d ++ [] ≡ s = append-nil s in
    let a = covenant-reads-back c [] (drop n s) wc (rw split (omega (arith, wd.size))) in
    let b = covenant-reads-back d [] [] wd (rw whole (omega (arith, wd.size))) in
    let there-c : covenant_at 1000009 s 0 ≡ ok a.0 (0 + n) = ap (λ x. covenant_at 1000009 x 0) (sym split) ∙ a.1 in
    let there-d : covenant_at 1000009 s 0 ≡ ok b.0 (0 + length s) = ap (λ x. covenant_at 1000009 x 0) (sym whole) ∙ b.1 in
    let both : ok a.0 (0 + n) ≡ ok b.0 (0 + length s) = sym there-c ∙ there-d in
    let same : a.0 ≡ b.0 = cc in
    let kind : c.kind ≡ d.kind = sym a.2 ∙ ap (λ (x : Reading). x.kind) same ∙ b.2 in
    let items-c : contents s a.0.items ≡ c.items = ap (λ x. contents x a.0.items) (sym split) ∙ a.3 in
    let items-d : contents s b.0.items ≡ d.items = ap (λ x. contents x b.0.items) (sym whole) ∙ b.3 in
    let items : c.items ≡ d.items = sym items-c ∙ ap (λ (x : Reading). contents s x.items) same ∙ items-d in
    ap₂ (λ k xs. record { kind = k; items = xs }) kind items

same_first : (c d : Meant) (r r' : List ℕ) → Writable c → Writable d → written c ++ r ≡ written d ++ r' → c ≡ d
same_first c d r r' wc wd e =
    by_order (length (written d)) (length (written c))
    (λ h. sym (begins d c r' r wd wc (omega arith) (sym e)))
    (λ h. begins c d r r' wc wd h e)

pub covenants-are-prefix-free : CovenantsArePrefixFree
unfolding covenant_size
covenants-are-prefix-free = record {
  alike =
      λ c d r r' wc wd e.
      let same = same_first c d r r' wc wd e in
      let f : written c ++ r ≡ written c ++ r' = e ∙ ap (λ x. written x ++ r') (sym same) in
      (same, sym (drop-append_seam (written c) r) ∙ ap (drop (length (written c))) f ∙ drop-append_seam (written c) r');
  filled = λ c w. omega (arith, size-is-length c);
}

pub run-has-one-reading : RunHasOneReading
run-has-one-reading = one-reading Meant Writable written covenants-are-prefix-free

-- ---- steps

pub steps-are-the-run : StepsAreTheRun
steps-are-the-run n limit s at count = record {
  ends = λ e. run-last (covenant_at limit s) n s at (skim-last limit s at (ap (λ (x : Advance Skimmed × ℕ). x.0) e));
  goes =
      λ e.
      let c = skim-handed limit s at (ap (λ (x : Advance Skimmed × ℕ). x.0) e) in
      let w = run_more (covenant_at limit s) n s at c.2 in
      (c.0, w.here, c.1, w.run);
}

-- ---- the count

pub count-never-wraps : CountNeverWraps
count-never-wraps s zero r big h = rw h (refl, omega arith, omega arith)
count-never-wraps s (suc k) r big h =
    let before = h.0 in
    let limit = h.1 in
    let ih = count-never-wraps s k before big h.3 in
    let both = sym h.4 in
    let step : step_at (Skim limit s) s before.cursor.position ≡ handed (h.2.kind, h.2.count, h.2.used) r.cursor.position = ap (λ (x : Advance Skimmed × ℕ). x.0) both in
    let c : count_after (step_at (Skim limit s) s before.cursor.position) before.count ≡ r.count = ap (λ (x : Advance Skimmed × ℕ). x.1) both in
    let counted : (before.count + 1) % 2 ^ 64 ≡ r.count = (rw step at c) in
    let w = skim-handed limit s before.cursor.position step in
    let m = covenant-moves limit s before.cursor.position (omega arith) (run_more (covenant_at limit s) zero s before.cursor.position w.2).here in
    (omega (arith, ih.0, ih.1, ih.2, m.0, m.1), omega (arith, ih.1, m.0), m.1)
