use Rattle.std.proofs.Common.{◌≡◌, List, ◌++◌, drop}
use Rattle.mg_value.specs.View.{items_view, members_view}
use Rattle.mg_value.proofs.Views.{Entry}
use Rattle.mg_value.specs.Stored.{AreStored, MembersAreStored}
use Rattle.mg_packed.specs.Tables.{Piece, item_pieces, member_pieces}
use Rattle.mg_packed.specs.Writing.{IsOpen}
use Rattle.mg_packed.proofs.fill.+fill_value.Given as goal

-- the pieces so far and those of the items left are those of all items
abbrev pub invariant-fill_list-loop-item : goal.invariant-fill_list-loop-item
invariant-fill_list-loop-item l =
    let left = items_view (drop l.item-index l.items) in
    (ps : List Piece) × (ps ++ item_pieces left ≡ item_pieces (items_view l.items))
    × IsOpen l.fn.out.items l.fn.inner.items 91 ps l.out.items l.inner.items l.pieces.text l.pieces.tables l.pieces.marks.items
    × (AreStored left → AreStored (items_view l.items))

-- the pieces so far and those of the members left are those of all members
abbrev pub invariant-fill_object-loop-name : goal.invariant-fill_object-loop-name
invariant-fill_object-loop-name l =
    let left = members_view l.name-iterator in
    (ps : List Piece) × (ps ++ member_pieces left ≡ member_pieces (members_view l.members.entries))
    × IsOpen l.fn.out.items l.fn.inner.items 123 ps l.out.items l.inner.items l.pieces.text l.pieces.tables l.pieces.marks.items
    × (MembersAreStored left → MembersAreStored (members_view l.members.entries))
    × (done : List Entry) × (l.members.entries ≡ done ++ l.name-iterator)
