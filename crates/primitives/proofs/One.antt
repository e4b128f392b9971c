-- Two results that meet a contract coincide, for each public function.
use mathlib.Core.Path.{◌≡◌}
use Prim.Native.Nat.{ℕ}
use mathlib.Core.Bool.{Bool}
use mathlib.Core.List.{List}
use Rattle.words.proofs.One.{one}
use Rattle.std.specs.Prelude.{Result}
use Rattle.refusal.specs.declared.Stop.{Stop}
use Rattle.encoding.specs.Paper.{read_paper}
use Rattle.encoding.specs.declared.read.Cursor.{Cursor}
use Rattle.encoding.proofs.Same.{read-same}
use Rattle.primitives.specs.Units.{sum_of, difference_of}
use Rattle.primitives.specs.Outpoints.{same_outpoint, is_null, outpoint_bytes, outpoint_at}
use Rattle.primitives.specs.declared.Dollarydoos.{Dollarydoos}
use Rattle.primitives.specs.declared.ArithmeticError.{ArithmeticError}
use Rattle.primitives.specs.declared.Outpoint.{Outpoint}

pub checked-add-one : (a b : Dollarydoos) {r r' : Result Dollarydoos ArithmeticError} → r ≡ sum_of a b → r' ≡ sum_of a b → r ≡ r'
checked-add-one a b = one

pub checked-sub-one : (a b : Dollarydoos) {r r' : Result Dollarydoos ArithmeticError} → r ≡ difference_of a b → r' ≡ difference_of a b → r ≡ r'
checked-sub-one a b = one

pub same-one : (a b : Outpoint) {r r' : Bool} → r ≡ same_outpoint a b → r' ≡ same_outpoint a b → r ≡ r'
same-one a b = one

pub is-null-one : (a : Outpoint) {r r' : Bool} → r ≡ is_null a → r' ≡ is_null a → r ≡ r'
is-null-one a = one

pub encode_one : (a : Outpoint) {r r' : List ℕ} → r ≡ outpoint_bytes a → r' ≡ outpoint_bytes a → r ≡ r'
encode_one a = one

pub decode-one : (s : List ℕ) (at : ℕ) {r r' : Result (Outpoint × Cursor) Stop} → read_paper r ≡ outpoint_at s at → read_paper r' ≡ outpoint_at s at → r ≡ r'
decode-one s at e f = read-same (one e f)
