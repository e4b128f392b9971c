use mathlib.Core.Path.{ap, ◌∙◌}
use mathlib.Core.List.{List, ◌++◌}
use Prim.Native.Nat.{ℕ}
use lib.ListN.{length, drop, replicate}
use Rattle.std.specs.Int.{w64, from_le_bytes}
use Rattle.words.proofs.Le.{from-padded}
use Rattle.words.proofs.load.cut_word.Goals as goal

pub returns : goal.returns
returns c =
    let t = c.args.tail.now in
    c.from_le_bytes.ensures
    ∙ ap (λ (l : List ℕ). from_le_bytes w64 (l ++ drop (length t) (replicate 8 0))) c.copy_from_slice.ensures.after
    ∙ from-padded t c.requires
