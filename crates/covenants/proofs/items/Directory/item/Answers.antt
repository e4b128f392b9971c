use borrow.Author.Tests.{lt-ltb, le-ltb}
use Rattle.covenants.specs.Items.{directory_item}
use Rattle.covenants.proofs.items.Directory.item.Goals.{then-self-index-via-then-self-index, then-self-index-via-else-self-index+then-index-ge-MAX_ITEMS}
use Rattle.covenants.proofs.items.Directory.item.Goals as goal

pub returns-then-self-index : goal.returns-then-self-index
unfolding directory_item
returns-then-self-index c = elim c.then-self-index.branch [
  | then-self-index-via-then-self-index w ↦ rw (le-ltb _ _ w.if-self-index.true)
  | then-self-index-via-else-self-index+then-index-ge-MAX_ITEMS w ↦ rw (lt-ltb _ _ w.if-self-index.false, le-ltb _ _ w.if-index-ge-MAX_ITEMS.true)
]

pub returns-then-has_room : goal.returns-then-has_room
unfolding directory_item
returns-then-has_room c = rw (lt-ltb _ _ c.if-self-index.false, lt-ltb _ _ c.if-index-ge-MAX_ITEMS.false, ← c.has_room.ensures, c.if-has_room.true)

pub returns : goal.returns
unfolding directory_item
returns c = rw (lt-ltb _ _ c.if-self-index.false, lt-ltb _ _ c.if-index-ge-MAX_ITEMS.false, ← c.has_room.ensures, c.if-has_room.false)
