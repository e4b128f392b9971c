use Rattle.std.proofs.Common.{ap, ◌∙◌}
use Rattle.blake2b.specs.Blake2b.{diags, round, row}
use Rattle.blake2b.proofs.Rounds.{named}
use Rattle.blake2b.proofs.round.Goals as goal

pub columns-requires : goal.columns-requires
unfolding row
columns-requires g c = named g.row.R

pub diagonals-requires : goal.diagonals-requires
unfolding row
diagonals-requires g c = named g.row.R

pub returns : goal.returns
unfolding round row
returns g c = c.diagonals.ensures ∙ ap (diags c.args.m.now (row g.row.R)) c.columns.ensures
