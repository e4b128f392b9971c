-- Two results that meet a contract coincide, for each public function.
use mathlib.Core.Path.{◌≡◌}
use Prim.Native.Nat.{ℕ}
use mathlib.Core.List.{List}
use Rattle.std.specs.Prelude.{Result}
use Rattle.words.proofs.One.{one}
use Rattle.links.specs.Verify.{verify_of}
use Rattle.links.specs.Paper.{verified_paper}
use Rattle.links.specs.declared.CovenantLinkSummary.{CovenantLinkSummary}
use Rattle.links.specs.declared.LinkStop.{LinkStop}
use Rattle.links.proofs.Same.{verified-same}

pub verify-covenant-links-one : (tx coins : List ℕ) {r r' : Result CovenantLinkSummary LinkStop} → verified_paper r ≡ verify_of tx coins → verified_paper r' ≡ verify_of tx coins → r ≡ r'
verify-covenant-links-one tx coins e f = verified-same (one e f)
