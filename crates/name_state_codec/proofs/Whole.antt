-- The whole record, written.
use mathlib.Core.Path.{◌≡◌, ap, sym, ◌∙◌}
use Prim.Native.Nat.{ℕ, ◌+◌, ◌≤◌}
use native.Mathlib.Omega.{arith}
use mathlib.Core.List.{List, ◌++◌}
use lib.ListN.{length, take, length-append}
use lib.Seq.{length-take-le}
use Rattle.words.specs.Words.{bytes}
use Rattle.words.specs.Buffers.{over}
use Rattle.words.proofs.Le.{length-bytes}
use Rattle.words.proofs.Laid.{Laid, both}
use Rattle.name_state.specs.State.{State, bitmap}
use Rattle.name_state.specs.Paper.{state_of, text, amounts_of, times_of}
use Rattle.name_state.specs.declared.NameState.{NameState}
use Rattle.name_state.proofs.Text.{text-long, text-within}
use Rattle.name_state_codec.specs.Written.{texts_bytes, numbers_bytes, record_with, state_bytes}
use Rattle.name_state_codec.specs.Workers.{own_held, own_times}
use Rattle.name_state_codec.proofs.Canonical.{numbers-long}
use Rattle.name_state_codec.proofs.Own.{own_held_lem, own-times}

-- the record, by the values
pub record-own : (t : State) → state_bytes t ≡ texts_bytes t ++ numbers_bytes (bitmap t) t ++ (own_held t.owner (amounts_of t) ++ own_times (times_of t))
unfolding state_bytes record_with
record-own t = rw (own_held_lem t, own-times t)

pub record-long : (t : State) → length (state_bytes t) ≡ length t.name + length t.resource + (13 + (length (own_held t.owner (amounts_of t)) + length (own_times (times_of t))))
unfolding texts_bytes
record-long t =
    let h = own_held t.owner (amounts_of t) in
    let x = own_times (times_of t) in
    let e = ap length (record-own t) in
    omega (
      arith,
      e,
      length-append (texts_bytes t ++ numbers_bytes (bitmap t) t) (h ++ x),
      length-append h x,
      length-append (texts_bytes t) (numbers_bytes (bitmap t) t),
      numbers-long (bitmap t) t,
      length-append (bytes 1 (length t.name) ++ t.name) (bytes 2 (length t.resource) ++ t.resource),
      length-append (bytes 1 (length t.name)) t.name,
      length-append (bytes 2 (length t.resource)) t.resource,
      length-bytes 1 (length t.name),
      length-bytes 2 (length t.resource),
    )

pub state-long : (p : NameState) → length (state_bytes (state_of p)) ≡ p.name_length + p.resource_length + (13 + (length (own_held p.owner (amounts_of (state_of p))) + length (own_times (times_of (state_of p)))))
state-long p = record-long (state_of p) ∙ omega (arith, text-long p.name_length p.name, text-long p.resource_length p.resource_data)

pub wrote-all : (t : State) {d d₁ d₂ d₃ d₄ d₅ : List ℕ} {one two ten three four : ℕ} → length (state_bytes t) ≤ length d → length d₃ ≡ length d → length d₁ ≡ length d
    → Laid d 0 (bytes 1 (length t.name) ++ t.name) d₁ one → Laid d₁ one (bytes 2 (length t.resource) ++ t.resource) d₂ two → Laid d₂ two (numbers_bytes (bitmap t) t) d₃ ten
    → Laid d₃ ten (own_held t.owner (amounts_of t)) d₄ three → Laid d₄ three (own_times (times_of t)) d₅ four
    → d₅ ≡ over 0 (state_bytes t) d
unfolding texts_bytes
wrote-all t {d} {d₁} {d₂} {d₃} {d₄} {d₅} room long long₁ A B C D E =
    let h = own_held t.owner (amounts_of t) in
    let x = own_times (times_of t) in
    let n = bytes 1 (length t.name) ++ t.name in
    let r = bytes 2 (length t.resource) ++ t.resource in
    let e = ap length (record-own t) in
    let l₁ = length-append (n ++ r ++ numbers_bytes (bitmap t) t) (h ++ x) in
    let l₂ = length-append h x in
    let l₃ = length-append (n ++ r) (numbers_bytes (bitmap t) t) in
    let l₄ = length-append n r in
    let AB = both (omega (arith, e, l₁, l₃)) A B in
    let ABC = both (omega (arith, e, l₁)) AB C in
    let DE = both (omega (arith, e, l₁, l₂, ABC.ends, long)) D E in
    (both (omega (arith, e)) ABC DE).holds ∙ ap (λ bs. over 0 bs d) (sym (record-own t))

pub text-size : (n width : ℕ) (bs : List ℕ) → n ≤ length bs → length (bytes width (length (take n bs)) ++ take n bs) ≡ width + n
text-size n width bs h = length-append (bytes width (length (take n bs))) (take n bs) ∙ omega (arith, length-bytes width (length (take n bs)), length-take-le n bs h)

-- a text that was written from its bytes
pub text-laid : (n width : ℕ) (bs d d' : List ℕ) {at end : ℕ} → n ≤ length bs → end ≡ at + length (bytes width (length (take n bs)) ++ take n bs) → d' ≡ over at (bytes width (length (take n bs)) ++ take n bs) d
    → Laid d at (bytes width (length (text n bs)) ++ text n bs) d' end
text-laid n width bs d d' h e f = let w = text-within n bs h in rw w (record { ends = e; holds = f })

pub numbers-laid : (t : State) (d d' : List ℕ) (at : ℕ) {bits : ℕ} → bits ≡ bitmap t → d' ≡ over at (bytes 4 t.height ++ bytes 4 t.renewal ++ bytes 2 bits) d → Laid d at (numbers_bytes (bitmap t) t) d' (at + 10)
unfolding numbers_bytes
numbers-laid t d d' at e f = record { ends = omega (arith, numbers-long (bitmap t) t); holds = rw (← e) f }
