-- Two answers that say the same in the document's numbers are the same answer: the answer's paper is injective.
use mathlib.Core.Path.{◌≡◌, refl, ap}
use Rattle.std.specs.Prelude.{Result, Ok, Err}
use Rattle.refusal.proofs.Same.{one-to-one, refusal, refusal-back}
use Rattle.primitives.specs.declared.Outpoint.{Outpoint}
use Rattle.links.specs.Verify.{Said, summary, stopped, Answer}
use Rattle.links.specs.Paper.{verified_paper}
use Rattle.links.specs.declared.CovenantLinkSummary.{CovenantLinkSummary}
use Rattle.links.specs.declared.LinkStop.{LinkStop}

said-back : Said → Outpoint → Outpoint → Result CovenantLinkSummary LinkStop
said-back (summary inputs outputs names) expected actual = Ok (record { inputs_checked = inputs; linked_outputs = outputs; name_inputs = names })
said-back (stopped k vs side) expected actual = Err (record { refusal = refusal k vs; side = side; expected = expected; actual = actual })

abbrev verified-back : Answer → Result CovenantLinkSummary LinkStop
verified-back a = said-back a.said a.expected a.actual

pub verified-same : {r r' : Result CovenantLinkSummary LinkStop} → verified_paper r ≡ verified_paper r' → r ≡ r'
unfolding said-back
verified-same =
    one-to-one verified_paper verified-back
    (elim [ Ok s ↦ refl | Err e ↦ ap (λ r. Err (record { refusal = r; side = e.side; expected = e.expected; actual = e.actual })) (refusal-back e.refusal) ])
