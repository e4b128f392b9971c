-- A line always fits into what the reports lend for it. The statements; their proofs are in proofs/Theorems.antt.
use Rattle.std.specs.Prelude.{ℕ, ◌≤◌, List, length}
use Rattle.reports.specs.Name.{name_line}
use Rattle.reports.specs.Link.{link_line}

-- `state held name= bytes=` and two numbers of 20 digits
abbrev pub NameLineFits : Type 0
NameLineFits = (file : List ℕ) → length (name_line file) ≤ 64

-- `links inputs= linked= names=` and three numbers of 20 digits
abbrev pub LinkLineFits : Type 0
LinkLineFits = (tx coins : List ℕ) → length (link_line tx coins) ≤ 89
