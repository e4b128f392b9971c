use native.Mathlib.Omega.{arith}
use mathlib.Core.Path.{sym, ◌∙◌}
use Prim.Native.Nat.{◌+◌}
use mathlib.Core.List.{◌++◌}
use lib.ListN.{length, length-append}
use borrow.Author.Tests.{leb-true, leb-false}
use Rattle.texts.proofs.Puts.{and_then, none-put}
use Rattle.texts.proofs.put_both.Goals as goal

pub returns-then-has_room : goal.returns-then-has_room
returns-then-has_room c =
    let a = c.args in
    let room = leb-true (a.at + (length a.a.now + length a.b.now)) (length a.d.now) (sym c.has_room.ensures ∙ c.if-has_room.true) in
    let made = and_then a.d.now a.at a.a.now a.b.now (c.put_text-next.ensures.value, c.put_text-next.ensures.d_after) (c.put_text.ensures.value, c.put_text.ensures.d_after) (omega (arith, length-append a.a.now a.b.now)) in
    record { value = made.0; d_after = made.1 }

pub returns-else-has_room : goal.returns-else-has_room
returns-else-has_room c =
    let a = c.args in
    let short = leb-false (a.at + (length a.a.now + length a.b.now)) (length a.d.now) (sym c.has_room.ensures ∙ c.if-has_room.false) in
    let made = none-put a.d.now a.at (a.a.now ++ a.b.now) (omega (arith, length-append a.a.now a.b.now)) in
    record { value = made.0; d_after = made.1 }
