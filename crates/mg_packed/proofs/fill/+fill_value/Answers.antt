use Rattle.std.proofs.Common.{◌≡◌, ◌+◌, [], ◌∷◌, ◌++◌, string_bytes, string_cmp, drop, length, refl, rules, sym, ap, ◌∙◌, subst, append_assoc, arith}
use Rattle.std.proofs.lemmas.List.{drop_more}
use Rattle.std.proofs.lemmas.Str.{IsUtf8-string_bytes}
use Rattle.std.specs.List.Sorted.{IsStrictlySortedBy}
use Rattle.std.specs.Map.{keys_of}
use Rattle.mg_value.specs.Stored.{AreStored, MembersAreStored}
use Rattle.mg_value.specs.Text.{compact}
use Rattle.mg_value.specs.Value.{text}
use Rattle.mg_value.specs.View.{view, items_view, members_view}
use Rattle.mg_value.proofs.Views.{Entry}
use Rattle.mg_packed.specs.Tables.{tables, item_pieces, member_pieces}
use Rattle.mg_packed.proofs.Built.{above_middle, ended}
use Rattle.mg_packed.proofs.Filled.{open_is, next_pieces, all_pieces, list_text, list_tables, object_text, object_tables}
use Rattle.mg_packed.proofs.Parts.{piece_of}
use Rattle.mg_packed.proofs.fill.+fill_value.Goals as goal

pub fill_list-loop-item-init : goal.fill_list-loop-item-init
fill_list-loop-item-init t c = ([], refl, c.in_ok-pieces.ensures, λ h. h)

pub fill_list-mark-requires : goal.fill_list-mark-requires
fill_list-mark-requires t c = let i = c.loop-item.invariant in (_, _, 91, i.0, i.2)

pub fill_list-loop-item-preserved : goal.fill_list-loop-item-preserved
fill_list-loop-item-preserved t c =
    let l = c.loop-item in
    let items = c.args.items.now in
    let y = c.item-item.result in
    let v = view y in
    let left = items_view (drop (l.item-index + 1) items) in
    let i = l.invariant in
    let step : drop l.item-index items ≡ y ∷ drop (l.item-index + 1) items = drop_more items l.item-index y c.loop-item-test.true ∙ ap (λ z. z ∷ drop (l.item-index + 1) items) (sym c.item-item.is) in
    let here : i.0 ++ piece_of 44 v ∷ item_pieces left ≡ item_pieces (items_view items) = subst (λ js. i.0 ++ item_pieces (items_view js) ≡ item_pieces (items_view items)) step i.1 in
    let opened = c.in_ok-mark.ensures.added _ _ 91 i.0 (piece_of 44 v) refl i.2 in (
      i.0 ++ piece_of 44 v ∷ [],
      next_pieces i.0 (piece_of 44 v) (item_pieces left) (item_pieces (items_view items)) here,
      open_is _ _ _ _ _ _ _ _ _ _ _ opened c.in_ok-fill_value.ensures.text c.in_ok-fill_value.ensures.tables,
      λ h. i.3 (subst (λ js. AreStored (items_view js)) (sym step) (c.in_ok-fill_value.ensures.stored, h)),
    )

pub fill_list-end-requires : goal.fill_list-end-requires
fill_list-end-requires t c = let i = c.loop-item.invariant in (_, _, 91, i.0, i.2)

pub fill_list-returns-clause-text : goal.fill_list-returns-clause-text
fill_list-returns-clause-text t c =
    let l = c.loop-item in
    let i = l.invariant in
    let items = c.args.items.now in
    let over : l.item-index ≡ length items = omega arith in
    let all = all_pieces i.0 (item_pieces (items_view items)) (subst (λ js. i.0 ++ item_pieces (items_view js) ≡ item_pieces (items_view items)) (ended items l.item-index over) i.1) in
    list_text _ i.0 (items_view items) _ all (c.in_ok-end.ensures _ _ 91 i.0 i.2).0

pub fill_list-returns-clause-tables : goal.fill_list-returns-clause-tables
fill_list-returns-clause-tables t c =
    let l = c.loop-item in
    let i = l.invariant in
    let items = c.args.items.now in
    let over : l.item-index ≡ length items = omega arith in
    let all = all_pieces i.0 (item_pieces (items_view items)) (subst (λ js. i.0 ++ item_pieces (items_view js) ≡ item_pieces (items_view items)) (ended items l.item-index over) i.1) in
    list_tables _ i.0 (items_view items) _ all (c.in_ok-end.ensures _ _ 91 i.0 i.2).1

pub fill_list-returns-clause-stored : goal.fill_list-returns-clause-stored
fill_list-returns-clause-stored t c =
    let l = c.loop-item in
    let items = c.args.items.now in
    let over : l.item-index ≡ length items = omega arith in
    l.invariant.3 (subst (λ js. AreStored (items_view js)) (sym (ended items l.item-index over)) tt)

pub fill_object-loop-name-init : goal.fill_object-loop-name-init
fill_object-loop-name-init t c =
    let pairs = c.args.members.now.entries in
    let whole : pairs ≡ c.into_iter-name-iterator.result = search rules in
    ([], ap (λ ps. member_pieces (members_view ps)) (sym whole), c.in_ok-pieces.ensures, λ h. subst (λ ps. MembersAreStored (members_view ps)) (sym whole) h, [], whole)

pub fill_object-mark-requires : goal.fill_object-mark-requires
fill_object-mark-requires t c = let i = c.loop-name.invariant in (_, _, 123, i.0, i.2)

-- the name is marked, and added
pub fill_object-mark-requires-in-loop-name : goal.fill_object-mark-requires-in-loop-name
fill_object-mark-requires-in-loop-name t c =
    let i = c.loop-name.invariant in
    let k = piece_of 44 (text c.deref.result.now) in
    let opened = c.in_ok-mark.ensures.added _ _ 123 i.0 k refl i.2 in
    (_, _, 123, i.0 ++ k ∷ [], open_is _ _ _ _ _ _ _ _ _ _ _ opened c.in_ok-push_text.ensures.text c.in_ok-push_text.ensures.tables)

pub fill_object-loop-name-preserved : goal.fill_object-loop-name-preserved
fill_object-loop-name-preserved t c =
    let l = c.loop-name in
    let e : Entry = (c.in-Some.name.now, c.in-Some.member.now) in
    let v = view e.1 in
    let left = c.next.new.self in
    let pairs = c.args.members.now.entries in
    let i = l.invariant in
    let step : l.name-iterator ≡ e ∷ left = c.in-Some.ensures.steps in
    let all : pairs ≡ i.4 ++ e ∷ left = i.5 ∙ ap (λ ps. i.4 ++ ps) step in
    let above = above_middle i.4 e left (subst (λ ps. IsStrictlySortedBy string_cmp (keys_of ps)) all c.iter-name-items.ensures.ordered) in
    let k = piece_of 44 (text (string_bytes e.0)) in
    let p = piece_of 58 v in
    let rest = member_pieces (members_view left) in
    let whole = member_pieces (members_view pairs) in
    let here : i.0 ++ k ∷ (p ∷ rest) ≡ whole = subst (λ ps. i.0 ++ member_pieces (members_view ps) ≡ whole) step i.1 in
    let name : c.push_text.new.out.items ≡ c.mark.new.text.items ++ compact (text (string_bytes e.0)) = c.in_ok-push_text.ensures.text ∙ ap (λ x. c.mark.new.text.items ++ compact (text x)) c.deref.ensures in
    let copy : c.push_text.new.inner.items ≡ l.inner.items ++ tables (text (string_bytes e.0)) = c.in_ok-push_text.ensures.tables ∙ ap (λ x. l.inner.items ++ tables (text x)) c.deref.ensures in
    let one = open_is _ _ _ _ _ _ _ _ _ c.push_text.new.out.items c.push_text.new.inner.items (c.in_ok-mark.ensures.added _ _ 123 i.0 k refl i.2) name copy in
    let two = c.in_ok-mark-2.ensures.added _ _ 123 (i.0 ++ k ∷ []) p refl one in (
      (i.0 ++ k ∷ []) ++ p ∷ [],
      next_pieces (i.0 ++ k ∷ []) p rest whole (next_pieces i.0 k (p ∷ rest) whole here),
      open_is _ _ _ _ _ _ _ _ _ _ _ two c.in_ok-fill_value.ensures.text c.in_ok-fill_value.ensures.tables,
      λ h. i.3 (subst (λ ps. MembersAreStored (members_view ps)) (sym step) (above, IsUtf8-string_bytes e.0, c.in_ok-fill_value.ensures.stored, h)),
      i.4 ++ e ∷ [],
      all ∙ sym (append_assoc i.4 (e ∷ []) left),
    )

pub fill_object-end-requires : goal.fill_object-end-requires
fill_object-end-requires t c = let i = c.loop-name.invariant in (_, _, 123, i.0, i.2)

pub fill_object-returns-clause-text : goal.fill_object-returns-clause-text
fill_object-returns-clause-text t c =
    let i = c.loop-name.invariant in
    let ms = members_view c.args.members.now.entries in
    let all = all_pieces i.0 (member_pieces ms) (subst (λ ps. i.0 ++ member_pieces (members_view ps) ≡ member_pieces ms) c.in-None.ensures.steps.0 i.1) in
    object_text _ i.0 ms _ all (c.in_ok-end.ensures _ _ 123 i.0 i.2).0

pub fill_object-returns-clause-tables : goal.fill_object-returns-clause-tables
fill_object-returns-clause-tables t c =
    let i = c.loop-name.invariant in
    let ms = members_view c.args.members.now.entries in
    let all = all_pieces i.0 (member_pieces ms) (subst (λ ps. i.0 ++ member_pieces (members_view ps) ≡ member_pieces ms) c.in-None.ensures.steps.0 i.1) in
    object_tables _ i.0 ms _ all (c.in_ok-end.ensures _ _ 123 i.0 i.2).1
