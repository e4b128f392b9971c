use native.Mathlib.Omega.{arith}
use mathlib.Core.Path.{◌≡◌, ap, ◌∙◌}
use Prim.Native.Nat.{◌≤◌}
use lib.ListN.{length, take, length-take, drop_of_length-le}
use Rattle.std.proofs.Common.{inl, inr}
use Rattle.std.proofs.lemmas.Slice.{between_to_end}
use Rattle.words.specs.Words.{le}
use Rattle.words.proofs.Le.{from-le}
use Rattle.words.proofs.load.load_u64.Goals as goal

pub returns-in_default : goal.returns-in_default
unfolding le
returns-in_default c =
    let h : length c.args.m.now ≤ c.args.at = elim c.in_default.ensures.lookup.0 [ inl h ↦ omega arith | inr h ↦ omega arith ] in
    rw (drop_of_length-le c.args.m.now h)

pub returns-in-Some-first_chunk : goal.returns-in-Some-first_chunk
returns-in-Some-first_chunk c =
    let found = c.in-Some.ensures.lookup.0 in
    let chunk = c.in-Some-first_chunk.ensures.cases in
    let n : length c.in-Some-first_chunk.word.now ≡ 8 = ap length chunk.same ∙ simp length-take (omega (arith, chunk.enough)) in
    let m = c.args.m.now in
    c.from_le_bytes.ensures ∙ from-le c.in-Some-first_chunk.word.now n
    ∙ ap le (chunk.same ∙ ap (take 8) (found.2 ∙ between_to_end m c.args.at (length m) (omega arith)))
