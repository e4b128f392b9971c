use Rattle.std.proofs.Common.{rules, tests, ◌||◌}
use Rattle.std.proofs.lemmas.Iterator.{YieldsList-from_slice}
use Rattle.std.proofs.lemmas.Iterator.Search.{all_from_yields_List}
use Rattle.names.specs.Name.{plain, mark, letters}
use Rattle.names.proofs.all_letters.Goals as goal

pub returns : goal.returns
unfolding letters
returns c = all_from_yields_List (λ b. plain b || mark b) _ _ _ c.all.ensures.ran (YieldsList-from_slice c.args.name.now cc) (λ x b q k. search (rules, tests))
