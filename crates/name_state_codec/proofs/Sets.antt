-- The lemmas that the functions name in their attributes, a set for each kind of goal.
use Rattle.std.proofs.lemmas.Bool.Decides.{nat_tests}
use Rattle.std.proofs.lemmas.List.{drop-replicate}
use Rattle.words.proofs.Le.{length-bytes, part-long}
use Rattle.words.proofs.Laid.{over_nothing}
use Rattle.words.proofs.Over.{laid-over, over-append, length_over}
use Rattle.refusal.proofs.Outcomes.{raised}
use Rattle.encoding.proofs.Compact.{length-compact, compact-size-most}
use Rattle.name_state.proofs.Text.{text-long}
use lib.ListN.{length-append}
use lib.Seq.{length-take-le}
use Rattle.name_state_codec.proofs.Whole.{state-long, text-size}
use Rattle.name_state_codec.proofs.Fields.{held-long, times_long}

-- reads in a row, each by `?`
pub ruleset read_steps = (nat_tests, raised)

-- the writer's checks, each by `?`
pub ruleset write_checks = (nat_tests, raised, text-long)

-- how long a field is, and where it is put
pub ruleset field_steps = (nat_tests, length-compact, compact-size-most, length-bytes, length-append, over_nothing, laid-over)

-- how long fields in a row are
pub ruleset row_sizes = (held-long, times_long)

-- one write after another
pub ruleset rows = (row_sizes, laid-over, over-append, length_over, length-bytes, length-append, length-compact)

-- how long a record and its texts are
pub ruleset record_sizes = (state-long, text-size, length-take-le)

-- a part of the record over zeros
pub ruleset paddings = (part-long, drop-replicate)
