use native.Mathlib.Omega.{arith}
use mathlib.Core.Path.{◌≡◌, ap, sym, ◌∙◌}
use Prim.Native.Nat.{ℕ, ◌+◌, ◌-◌}
use lib.ListN.{length, take, drop, length-take, length-drop}
use borrow.Author.Tests.{leb-true, leb-false}
use borrow.Rule.Slice.PartMut.{put_mid}
use Rattle.words.specs.Words.{bytes}
use Rattle.words.proofs.Le.{length-bytes}
use Rattle.words.proofs.Over.{no_room, room, over-mid}
use Rattle.words.proofs.store.put_le.Goals as goal

pub returns-then-room : goal.returns-then-room
returns-then-room c =
    let a = c.args in
    let bs = bytes a.n a.v in
    let n = length-bytes a.n a.v in
    let h = leb-true (a.at + a.n) (length a.d.now) (sym c.has_room-room.ensures ∙ c.if-room.true) in
    let k : length (take (a.at + a.n - a.at) (drop a.at a.d.now)) ≡ a.n = simp (length-take, length-drop) (omega arith) in
    let filled = c.fill_le.ensures ∙ ap (λ (m : ℕ). bytes m a.v) k in
    let e = ap (put_mid a.at (a.at + a.n - a.at) a.d.now) filled ∙ over-mid a.at (a.at + a.n - a.at) bs a.d.now (omega arith) in
    let r = room a.at bs a.d.now a.n n h e in
    (c.if-room.true ∙ r.0, r.1)

pub returns-else-room : goal.returns-else-room
returns-else-room c =
    let a = c.args in
    let r = no_room a.at (bytes a.n a.v) a.d.now a.n (length-bytes a.n a.v) (leb-false _ _ (sym c.has_room-room.ensures ∙ c.if-room.false)) in
    (c.if-room.false ∙ r.0, r.1)
