-- Two results that meet a contract coincide, for each public function.
use mathlib.Core.Path.{◌≡◌}
use Prim.Native.Nat.{ℕ}
use Rattle.words.proofs.One.{one}
use Rattle.refusal.specs.Outcome.{refused_by}
use Rattle.refusal.specs.Paper.{number_of, carried, shown_carried, judgement_paper}
use Rattle.refusal.specs.declared.Refusal.{Refusal}
use Rattle.refusal.specs.declared.Carried.{Carried}
use Rattle.std.specs.Prelude.{Result}

pub number-one : (r : Refusal) {n n' : ℕ} → n ≡ number_of r → n' ≡ number_of r → n ≡ n'
number-one r = one

pub judgement-number-one : (j : Result Unit Refusal) {n n' : ℕ} → n ≡ refused_by (judgement_paper j) → n' ≡ refused_by (judgement_paper j) → n ≡ n'
judgement-number-one j = one

pub carried-by-one : (r : Refusal) {c c' : Carried} → c ≡ shown_carried (carried r) → c' ≡ shown_carried (carried r) → c ≡ c'
carried-by-one r = one
