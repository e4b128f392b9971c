-- What each answer says, in the document's numbers.
use Rattle.std.specs.Prelude.{ℕ, Result, Ok, Err}
use Rattle.refusal.specs.Paper.{number_of, carried}
use Rattle.refusal.specs.declared.Refusal.{Refusal}
use Rattle.primitives.specs.Outpoints.{no_outpoint}
use Rattle.links.specs.Verify.{summary, stopped, Answer, without_outpoints}
use Rattle.links.specs.declared.CovenantLinkSummary.{CovenantLinkSummary}
use Rattle.links.specs.declared.LinkStop.{LinkStop}

-- a refusal other than 12, which has no outpoints: of a sheet, with its side, or of a rule, with 0
abbrev pub plain_stop : Refusal → ℕ → LinkStop
plain_stop r side = record { refusal = r; side = side; expected = no_outpoint; actual = no_outpoint }

abbrev pub stop_answer : LinkStop → Answer
stop_answer e = record { said = stopped (number_of e.refusal) (carried e.refusal) e.side; expected = e.expected; actual = e.actual }

abbrev pub verified_paper : Result CovenantLinkSummary LinkStop → Answer
verified_paper (Ok s) = without_outpoints (summary s.inputs_checked s.linked_outputs s.name_inputs)
verified_paper (Err e) = stop_answer e
