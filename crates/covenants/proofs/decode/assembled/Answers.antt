use Rattle.covenants.proofs.Directory.{accepted-shown}
use mathlib.Core.Path.{ap, sym, ◌∙◌}
use Rattle.covenants.specs.Paper.{covenant_paper}
use Rattle.covenants.proofs.decode.assembled.Goals as goal

pub returns : goal.returns
returns c = λ o e f g. accepted-shown o (sym (ap covenant_paper c.in_ok-accepted.was) ∙ e) f g
