use native.Mathlib.Omega.{arith}
use mathlib.Core.Path.{◌≡◌, ap, ◌∙◌}
use mathlib.Core.List.{List}
use Prim.Native.Nat.{ℕ, ◌+◌, ◌-◌, ◌*◌, ◌/◌}
use lib.ListN.{length, take, drop, replicate, length-take, length-drop, length-set, length-append}
use Rattle.std.proofs.Common.{map}
use Rattle.words.specs.Words.{le, lanes}
use Rattle.words.proofs.Lanes.{length-lanes, lanes-chunks, lanes-laid, from-at}
use Rattle.words.proofs.load.load_words.Goals as goal

pub returns-then-out-whole : goal.returns-then-out-whole
returns-then-out-whole c =
    let n = length c.args.out.now in
    let i = c.min.result in
    let p = take (length c.args.m.now - i) (drop i c.args.m.now) in
    let h = c.as_chunks.ensures in
    c.whole_words.ensures
    ∙ ap (λ (w : List (List ℕ)). map le (take n w)) h.front
    ∙ lanes-chunks n (length p / 8) p (omega (arith, h.front_len))
    ∙ ap (lanes n) (from-at c.args.m.now c.args.at i c.min.ensures)

pub returns-else-out-whole : goal.returns-else-out-whole
returns-else-out-whole c =
    let out = c.args.out.now in
    let i = c.min.result in
    let p = take (length c.args.m.now - i) (drop i c.args.m.now) in
    let h = c.as_chunks.ensures in
    let k = length c.as_chunks.result.0.now in
    let n : length (take k out) ≡ k = simp length-take (omega arith) in
    let ws = c.whole_words-else-out-whole.ensures
    ∙ ap (λ (j : ℕ). map le (take j c.as_chunks.result.0.now)) n
    ∙ ap (λ (w : List (List ℕ)). map le (take k w)) h.front
    ∙ lanes-chunks k (length p / 8) p (omega (arith, h.front_len)) in
    let e : length p / 8 * 8 ≡ 8 * k = omega (arith, h.front_len) in
    let x = c.cut_word.ensures ∙ ap le (h.back ∙ ap (λ (j : ℕ). drop j p) e) in
    let long : length c.whole_words-else-out-whole.new.out ≡ k = ap length ws ∙ length-lanes k p in
    let left : length c.fill.new.self ≡ length out - (k + 1) = c.fill.ensures.len ∙ simp (length-take, length-drop, length-set, length-append) (omega arith) in
    let zeros : c.fill.new.self ≡ replicate (length out - (k + 1)) 0 = rw (← left, c.fill.ensures.len) (c.fill.ensures.after (λ y e. e)) in
    lanes-laid out _ _ p k c.cut_word.result h.front_len (omega arith) ws x zeros
    ∙ ap (lanes (length out)) (from-at c.args.m.now c.args.at i c.min.ensures)
