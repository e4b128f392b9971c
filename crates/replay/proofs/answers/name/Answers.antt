use mathlib.Core.Path.{◌∙◌}
use Rattle.words.specs.Words.{bytes}
use Rattle.words.proofs.Le.{to-le}
use Rattle.replay.proofs.answers.name.Goals as goal

pub returns-in-Ok : goal.returns-in-Ok
unfolding bytes
returns-in-Ok c = rw (← c.hash_name.ensures, c.in-Ok.is) c.join.ensures

pub returns-in-Err : goal.returns-in-Err
returns-in-Err c =
    let word = c.to_le_bytes.ensures ∙ to-le c.from.result in
    rw (← c.hash_name.ensures, c.in-Err.is) (rw (word, c.from.ensures, c.number.ensures) at c.join-in-Err.ensures)
