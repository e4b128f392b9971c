-- The number of the interface. What breaks it raises it.
use Rattle.std.specs.Prelude.{ℕ}

abbrev pub version : ℕ
version = 1
