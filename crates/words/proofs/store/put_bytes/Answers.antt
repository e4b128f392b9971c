use mathlib.Core.Path.{refl, sym, ◌∙◌}
use lib.ListN.{length}
use borrow.Author.Tests.{leb-true, leb-false}
use Rattle.words.proofs.Over.{no_room, room}
use Rattle.words.proofs.store.put_bytes.Goals as goal

pub store_bytes-requires : goal.store_bytes-requires
store_bytes-requires c = leb-true _ _ (sym c.has_room-room.ensures ∙ c.if-room.true)

pub returns-then-room : goal.returns-then-room
returns-then-room c =
    let r = room _ _ _ _ refl (leb-true _ _ (sym c.has_room-room.ensures ∙ c.if-room.true)) c.store_bytes.ensures in
    (c.if-room.true ∙ r.0, r.1)

pub returns-else-room : goal.returns-else-room
returns-else-room c =
    let a = c.args in
    let r = no_room a.at a.s.now a.d.now (length a.s.now) refl (leb-false _ _ (sym c.has_room-room.ensures ∙ c.if-room.false)) in
    (c.if-room.false ∙ r.0, r.1)
