use native.Mathlib.Omega.{arith}
use mathlib.Core.Path.{◌≡◌, sym, ◌∙◌}
use Prim.Native.Nat.{◌/◌}
use lib.ListN.{length}
use Rattle.words.proofs.Sameness.{same-long, same_next, same_stop, same_end, word_next, word_stop, words-done}
use Rattle.words.proofs.same.same_bytes.Goals as goal

pub returns-then-a-b : goal.returns-then-a-b
returns-then-a-b c = sym (same-long _ _ c.if-a-b.true)

pub returns-then-ne : goal.returns-then-ne
returns-then-ne c =
    let ws = c.as_chunks.result.0.now in
    let vs = c.as_chunks-2.result.0.now in
    let stop = word_stop c.args.a.now c.args.b.now ws vs c.loop-i.i (omega arith) c.as_chunks.ensures.front c.as_chunks-2.ensures.front c.as_chunks.ensures.front_len (omega arith) (sym c.if-ne.true ∙ c.ne.ensures) in
    sym (c.loop-i.invariant ∙ stop)

pub loop-i-preserved : goal.loop-i-preserved
loop-i-preserved c =
    let ws = c.as_chunks.result.0.now in
    let vs = c.as_chunks-2.result.0.now in
    c.loop-i.invariant ∙ word_next c.args.a.now c.args.b.now ws vs c.loop-i.i (omega arith) c.as_chunks.ensures.front c.as_chunks-2.ensures.front c.as_chunks.ensures.front_len (omega arith) (sym c.if-ne.false ∙ c.ne.ensures)

pub loop-j-init : goal.loop-j-init
loop-j-init c =
    let done : c.loop-i.i ≡ length c.args.a.now / 8 = omega (arith, c.as_chunks.ensures.front_len) in
    c.loop-i.invariant ∙ words-done c.args.a.now c.args.b.now c.loop-i.i done (omega arith) c.as_chunks.ensures.back c.as_chunks-2.ensures.back

pub returns-then-byte-other_rest : goal.returns-then-byte-other_rest
returns-then-byte-other_rest c =
    let s = c.as_chunks.result.1.now in
    let t = c.as_chunks-2.result.1.now in
    let long : length s ≡ length t = omega (arith, c.as_chunks.ensures.back_len, c.as_chunks-2.ensures.back_len, c.if-a-b.false) in
    sym (c.loop-j.invariant ∙ same_stop s t c.loop-j.j (omega arith) (omega arith) c.if-byte-other_rest.true)

pub loop-j-preserved : goal.loop-j-preserved
loop-j-preserved c =
    let s = c.as_chunks.result.1.now in
    let t = c.as_chunks-2.result.1.now in
    let long : length s ≡ length t = omega (arith, c.as_chunks.ensures.back_len, c.as_chunks-2.ensures.back_len, c.if-a-b.false) in
    c.loop-j.invariant ∙ same_next s t c.loop-j.j (omega arith) (omega arith) c.if-byte-other_rest.false

pub returns : goal.returns
returns c =
    let s = c.as_chunks.result.1.now in
    let t = c.as_chunks-2.result.1.now in
    let long : length s ≡ length t = omega (arith, c.as_chunks.ensures.back_len, c.as_chunks-2.ensures.back_len, c.if-a-b.false) in
    sym (c.loop-j.invariant ∙ same_end s t c.loop-j.j (omega arith) (omega arith))
