-- The lemmas that the functions name in their attributes, a set for each kind of goal.
use Rattle.std.proofs.lemmas.Bool.Decides.{nat_tests}
use Rattle.refusal.proofs.Outcomes.{raised}
use Rattle.primitives.proofs.Equal.{same-pointwise, equal}
use Rattle.names.proofs.Hash.{long-refused}
use Rattle.name_state.proofs.Text.{text-long, text_got, same-within, same-other}

-- what the tests of a state's fields tell
pub ruleset field_tests = (nat_tests, text-long, same-pointwise, equal)

-- what the tests of two texts tell
pub ruleset text_tests = (nat_tests, same-pointwise, same-within, same-other)

-- the steps from a name to its key
pub ruleset binding_steps = (nat_tests, text-long, text_got, long-refused, raised)
