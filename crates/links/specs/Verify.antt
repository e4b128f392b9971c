-- The verifier over two sheets (document 01, "Sheets and reports"): "The transaction sheet is judged whole, then the
-- coin sheet, then the links".
use Rattle.std.specs.Prelude.{ℕ, List, [], ◌∷◌}
use Rattle.primitives.specs.declared.Outpoint.{Outpoint}
use Rattle.primitives.specs.Outpoints.{no_outpoint}
use Rattle.sheets.specs.Sheet.{Judged, whole, refused, pair_of}
use Rattle.links.specs.Rules.{Verdict, linked, broken, differs, Rule, rule, links_of}

-- what is answered: "Summary: inputs; partners accepted in rows Bid to Transfer; spent kinds 1 to 11"; or a refusal by
-- its number and what it carries, with the side where a sheet was refused, 0 where a rule was broken
pub data Said : Type 0 where
  summary : ℕ → ℕ → ℕ → Said
  stopped : ℕ → List ℕ → ℕ → Said

-- .. and beside it "both outpoints" of 12: the input's and the coin's. "Unused parts of an answer are zeros"
pub record Answer : Type 0 where
  pub said : Said
  pub expected : Outpoint
  pub actual : Outpoint

abbrev pub without_outpoints : Said → Answer
without_outpoints said = record { said = said; expected = no_outpoint; actual = no_outpoint }

abbrev pub answer_of : Verdict → Answer
answer_of (linked inputs outputs names) = without_outpoints (summary inputs outputs names)
answer_of (broken k vs) = without_outpoints (stopped k vs 0)
answer_of (differs i expected actual) = record { said = stopped 12 (i ∷ []) 0; expected = expected; actual = actual }

-- what follows sheets that are not refused
abbrev pub judged_then : {A : Type 0} → Judged A → (A → Answer) → Answer
judged_then (whole a) f = f a
judged_then (refused k vs side) f = without_outpoints (stopped k vs side)

abbrev pub verify_with : Rule → List ℕ → List ℕ → Answer
verify_with judge tx coins =
    judged_then (pair_of tx coins) (λ pair. answer_of (links_of judge pair.0.inputs pair.0.outputs pair.1))

unfoldable pub verify_of : List ℕ → List ℕ → Answer
verify_of tx coins = verify_with rule tx coins
