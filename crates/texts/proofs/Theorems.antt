-- The theorems of specs/Theorems.antt.
use Rattle.texts.specs.Theorems.{EndsInARow, PutsInARow, NothingAfter}
use Rattle.texts.proofs.Puts.{both_end, both-laid, none_after}

pub ends-in-a-row : EndsInARow
ends-in-a-row = both_end

pub puts-in-a-row : PutsInARow
puts-in-a-row = both-laid

pub nothing-after : NothingAfter
nothing-after = none_after
