-- Two results that meet a contract coincide, for each public function.
use mathlib.Core.Path.{◌≡◌, sym, ◌∙◌}
use Prim.Native.Nat.{ℕ, ◌+◌}
use mathlib.Core.Bool.{Bool}
use mathlib.Core.List.{List, ◌++◌}
use lib.ListN.{length, take, drop}
use lib.Dec.{leb}
use Rattle.words.specs.Words.{le, bytes, lanes}
use Rattle.words.specs.Buffers.{fits, laid}
use Rattle.words.specs.Sameness.{same}

-- a contract that names the result leaves one
pub one : {X : Type 0} {x y z : X} → x ≡ z → y ≡ z → x ≡ y
one e f = e ∙ sym f

-- and so does one that names the result and a lent buffer's content
pub one_each : {X Y : Type 0} {x x' z : X} {y y' w : Y} → (x ≡ z) × (y ≡ w) → (x' ≡ z) × (y' ≡ w) → (x ≡ x') × (y ≡ y')
one_each e f = (one e.0 f.0, one e.1 f.1)

pub load-u64-one : (m : List ℕ) (at : ℕ) {r r' : ℕ} → r ≡ le (take 8 (drop at m)) → r' ≡ le (take 8 (drop at m)) → r ≡ r'
load-u64-one m at = one

pub load-words-one : (out m : List ℕ) (at : ℕ) {o o' : List ℕ} → o ≡ lanes (length out) (drop at m) → o' ≡ lanes (length out) (drop at m) → o ≡ o'
load-words-one out m at = one

pub has-room-one : (length at n : ℕ) {r r' : Bool} → r ≡ leb (at + n) length → r' ≡ leb (at + n) length → r ≡ r'
has-room-one length at n = one

pub put-le-one : (d : List ℕ) (at n v : ℕ) {r r' : Bool} {d₁ d₂ : List ℕ} → (r ≡ fits at (bytes n v) d) × (d₁ ≡ laid at (bytes n v) d) → (r' ≡ fits at (bytes n v) d) × (d₂ ≡ laid at (bytes n v) d) → (r ≡ r') × (d₁ ≡ d₂)
put-le-one d at n v = one_each

pub put-bytes-one : (d : List ℕ) (at : ℕ) (s : List ℕ) {r r' : Bool} {d₁ d₂ : List ℕ} → (r ≡ fits at s d) × (d₁ ≡ laid at s d) → (r' ≡ fits at s d) × (d₂ ≡ laid at s d) → (r ≡ r') × (d₁ ≡ d₂)
put-bytes-one d at s = one_each

pub words-bytes-one : (a b c d : ℕ) {r r' : List ℕ} → r ≡ bytes 8 a ++ bytes 8 b ++ bytes 8 c ++ bytes 8 d → r' ≡ bytes 8 a ++ bytes 8 b ++ bytes 8 c ++ bytes 8 d → r ≡ r'
words-bytes-one a b c d = one

pub same-bytes-one : (a b : List ℕ) {r r' : Bool} → r ≡ same a b → r' ≡ same a b → r ≡ r'
same-bytes-one a b = one
