use native.Mathlib.Omega.{arith}
use mathlib.Core.Path.{sym}
use Rattle.encoding.proofs.Fixed.{compact-byte}
use Rattle.encoding.proofs.read.Cursor.read_compact_size.Goals as goal

pub longer_compact-requires : goal.longer_compact-requires
longer_compact-requires c = λ h. omega arith

pub longer_compact-requires-then-tag-gt252 : goal.longer_compact-requires-then-tag-gt252
longer_compact-requires-then-tag-gt252 c = λ h. omega arith

pub returns : goal.returns
returns c = rw c.from.ensures (sym (compact-byte _ _ (omega arith) (omega arith) (omega arith)))
