use Rattle.std.proofs.Common.{◌≡◌, ◌+◌, ℕ, List, [], ◌∷◌, ◌++◌, take, refl, rules, sym, ap, ◌∙◌, subst, arith, append_assoc, append-nil, option_map}
use Rattle.std.proofs.lemmas.List.{take_more}
use Rattle.std.proofs.Math.Seq.{take-length}
use Rattle.json.specs.Json as json
use Rattle.json.specs.Value.{value_view, items_view as tree_items, members_view as tree_members}
use Rattle.json.specs.declared.value.Value.{the_lemmas as tree_lemmas}
use Rattle.json.proofs.Trees.{view-Array, view-Object}
use Rattle.serde_json.specs.Data as parsed
use Rattle.serde_json.specs.Read.{of_json}
use Rattle.mg_value.proofs.Trees.{number_parts}
use Rattle.mg_value.specs.Stored.{IsStored}
use Rattle.mg_value.specs.Text.{compact}
use Rattle.mg_value.specs.Value.{Value, null, flag, whole, text, list, object, no_items, no_members}
use Rattle.mg_packed.specs.Tables.{tables, item_pieces, member_pieces}
use Rattle.mg_packed.specs.Sorted.{TreeMember, ItemsMatch, MembersMatch, IsAdded, IsPushed}
use Rattle.mg_packed.specs.Writing.{IsOpen}
use Rattle.mg_packed.proofs.Filled.{open_is, list_text, list_tables, object_text, object_tables}
use Rattle.mg_packed.proofs.Parts.{piece_of}
use Rattle.mg_packed.proofs.Sorted.{weaker, both_weaker, items_with, members_with, pieces-items_with, pieces-members_with, items_match-push, members_match-push, items_whole, items_stored, members_whole, members_stored}
use Rattle.mg_packed.proofs.tree.+push_tree.Goals as goal

-- what is added for a value without tables
without_tables : (v : Value) (b0 t0 b : List ℕ) → tables v ≡ [] → IsStored v → b ≡ b0 ++ compact v → IsAdded v b0 t0 b t0
without_tables v b0 t0 b none stored is = record { text = is; tables = sym (append-nil t0) ∙ ap (λ x. t0 ++ x) (sym none); stored = stored }

pub push_tree-returns-in-Null : goal.push_tree-returns-in-Null
push_tree-returns-in-Null t c =
    let seen : value_view c.args.tree.now ≡ json.null = rw c.in-Null.is (search (rules, tree_lemmas)) in
    weaker _ (IsPushed (value_view c.args.tree.now) c.args.out.now.items c.args.inner.now.items c.push_null.new.out.items c.args.inner.now.items) c.push_null.result (λ is. (null, (parsed.null, ap of_json seen, refl), without_tables null _ _ _ refl tt is)) c.push_null.ensures

pub push_tree-returns-in-Bool : goal.push_tree-returns-in-Bool
push_tree-returns-in-Bool t c =
    let b = c.in-Bool.flag in
    let seen : value_view c.args.tree.now ≡ json.boolean b = rw c.in-Bool.is (search (rules, tree_lemmas)) in
    weaker _ (IsPushed (value_view c.args.tree.now) c.args.out.now.items c.args.inner.now.items c.push_flag.new.out.items c.args.inner.now.items) c.push_flag.result (λ is. (flag b, (parsed.boolean b, ap of_json seen, refl), without_tables (flag b) _ _ _ refl tt is)) c.push_flag.ensures

pub push_tree-returns-in-Number : goal.push_tree-returns-in-Number
push_tree-returns-in-Number t c =
    let s = c.in-Number.text.now in
    let seen : value_view c.args.tree.now ≡ json.number s = rw c.in-Number.is (search (rules, tree_lemmas)) in
    weaker _ (IsPushed (value_view c.args.tree.now) c.args.out.now.items c.args.inner.now.items c.push_number.new.out.items c.args.inner.now.items) c.push_number.result
    (λ w. let n = number_parts s w.0 w.1 in (whole w.0, (parsed.number n.0, ap of_json seen ∙ ap (option_map parsed.number) n.1, ap (option_map whole) n.2), without_tables (whole w.0) _ _ _ refl w.2 w.3)) c.push_number.ensures

pub push_tree-returns-in-String : goal.push_tree-returns-in-String
push_tree-returns-in-String t c =
    let s = c.in-String.text.now in
    let seen : value_view c.args.tree.now ≡ json.string s = rw c.in-String.is (search (rules, tree_lemmas)) in
    weaker _ (IsPushed (value_view c.args.tree.now) c.args.out.now.items c.args.inner.now.items c.push_string.new.out.items c.push_string.new.inner.items) c.push_string.result (λ a. (text s, (parsed.string s, ap of_json seen, refl), a)) c.push_string.ensures

pub push_tree-returns-in-Array : goal.push_tree-returns-in-Array
push_tree-returns-in-Array t c =
    let ts = c.deref.result.now in
    let seen : value_view c.args.tree.now ≡ json.array (tree_items ts) = ap value_view c.in-Array.is ∙ view-Array c.in-Array.items ∙ ap (λ x. json.array (tree_items x)) (sym c.deref.ensures.value) in
    weaker _ (IsPushed (value_view c.args.tree.now) c.args.out.now.items c.args.inner.now.items c.push_array.new.out.items c.push_array.new.inner.items) c.push_array.result
    (λ w. let r = items_whole ts w.0 w.1 in (list w.0, (parsed.array r.0, ap of_json seen ∙ ap (option_map parsed.array) r.1, ap (option_map list) r.2), w.2)) c.push_array.ensures

pub push_tree-returns-in-Object : goal.push_tree-returns-in-Object
push_tree-returns-in-Object t c =
    let ts = c.deref-in-Object.result.now in
    let seen : value_view c.args.tree.now ≡ json.object (tree_members ts) = ap value_view c.in-Object.is ∙ view-Object c.in-Object.members ∙ ap (λ x. json.object (tree_members x)) (sym c.deref-in-Object.ensures.value) in
    weaker _ (IsPushed (value_view c.args.tree.now) c.args.out.now.items c.args.inner.now.items c.push_object.new.out.items c.push_object.new.inner.items) c.push_object.result
    (λ w.
    let m = w.1 in
    let r = members_whole m.0 w.0 m.3 in
    (object w.0, (parsed.object r.0, ap of_json seen ∙ ap (option_map parsed.object) (m.1 r.0 r.1), ap (option_map object) r.2), w.2)) c.push_object.ensures

pub push_object-returns : goal.push_object-returns
push_object-returns t c =
    let es = c.in_ok-sorted.sorted.entries in
    both_weaker _ _ _ c.push_sorted.result (λ ordered w. (w.0, (es, c.in_ok-sorted.ensures, ordered, w.1), w.2)) c.push_sorted.ensures.ordered c.push_sorted.ensures.pushed

pub push_items-loop-item-init : goal.push_items-loop-item-init
push_items-loop-item-init t c = (no_items, tt, c.in_ok-pieces.ensures)

pub push_items-mark-requires : goal.push_items-mark-requires
push_items-mark-requires t c = let i = c.loop-item.invariant in (_, _, 91, item_pieces i.0, i.2)

pub push_items-loop-item-preserved : goal.push_items-loop-item-preserved
push_items-loop-item-preserved t c =
    let l = c.loop-item in
    let i = l.item-index in
    let ts = c.args.items.now in
    let x = c.item-item.result in
    let vs = l.invariant.0 in
    let p = c.in_ok-push_tree.ensures in
    let v = p.0 in
    let more : take (i + 1) ts ≡ take i ts ++ x ∷ [] = take_more _ _ x (omega arith) ∙ ap (λ y. take i ts ++ y ∷ []) (sym c.item-item.is) in
    let opened = c.in_ok-mark.ensures.added _ _ 91 (item_pieces vs) (piece_of 44 v) refl l.invariant.2 in
    let b = c.push_tree.new.out.items in
    let u = c.push_tree.new.inner.items in (
      items_with vs v,
      subst (λ ys. ItemsMatch ys (items_with vs v)) (sym more) (items_match-push (take i ts) x vs v l.invariant.1 p.1 p.2.stored),
      subst (λ ps. IsOpen c.args.out.now.items c.args.inner.now.items 91 ps b u c.mark.new.self.text c.mark.new.self.tables c.mark.new.self.marks.items) (sym (pieces-items_with vs v)) (open_is _ _ _ _ _ _ _ _ _ b u opened p.2.text p.2.tables),
    )

pub push_items-end-requires : goal.push_items-end-requires
push_items-end-requires t c = let i = c.loop-item.invariant in (_, _, 91, item_pieces i.0, i.2)

pub push_items-returns : goal.push_items-returns
push_items-returns t c =
    let l = c.loop-item in
    let ts = c.args.items.now in
    let vs = l.invariant.0 in
    let all : take l.item-index ts ≡ ts = ap (λ n. take n ts) (omega arith) ∙ take-length ts in
    let matched : ItemsMatch ts vs = subst (λ ys. ItemsMatch ys vs) all l.invariant.1 in
    let made = c.in_ok-end.ensures _ _ 91 (item_pieces vs) l.invariant.2 in
    (vs, matched, record { text = list_text _ (item_pieces vs) vs _ refl made.0; tables = list_tables _ (item_pieces vs) vs _ refl made.1; stored = items_stored ts vs matched })

pub push_sorted-loop-name-init : goal.push_sorted-loop-name-init
push_sorted-loop-name-init t c = ([], search rules, no_members, tt, c.in_ok-pieces.ensures)

pub push_sorted-mark-requires : goal.push_sorted-mark-requires
push_sorted-mark-requires t c = let i = c.loop-name.invariant in (_, _, 123, member_pieces i.2, i.4)

pub push_sorted-mark-requires-in-loop-name : goal.push_sorted-mark-requires-in-loop-name
push_sorted-mark-requires-in-loop-name t c =
    let i = c.loop-name.invariant in
    let k = piece_of 44 (text c.in-Some.name.now.now) in
    let a = c.in_ok-push_string.ensures in
    let opened = c.in_ok-mark.ensures.added _ _ 123 (member_pieces i.2) k refl i.4 in
    (_, _, 123, member_pieces i.2 ++ k ∷ [], open_is _ _ _ _ _ _ _ _ _ _ _ opened a.text a.tables)

pub push_sorted-loop-name-preserved : goal.push_sorted-loop-name-preserved
push_sorted-loop-name-preserved t c =
    let l = c.loop-name in
    let done = l.invariant.0 in
    let ms = l.invariant.2 in
    let e : TreeMember = (c.in-Some.name.now, c.in-Some.tree.now) in
    let left = c.next.new.self in
    let step : l.name-iterator ≡ e ∷ left = c.in-Some.ensures.steps in
    let all : c.args.sorted.now.entries ≡ done ++ e ∷ left = l.invariant.1 ∙ ap (λ es. done ++ es) step in
    let p = c.in_ok-push_tree.ensures in
    let v = p.0 in
    let a = c.in_ok-push_string.ensures in
    let k = piece_of 44 (text e.0.now) in
    let one = open_is _ _ _ _ _ _ _ _ _ c.push_string.new.out.items c.push_string.new.inner.items (c.in_ok-mark.ensures.added _ _ 123 (member_pieces ms) k refl l.invariant.4) a.text a.tables in
    let two = c.in_ok-mark-2.ensures.added _ _ 123 (member_pieces ms ++ k ∷ []) (piece_of 58 v) refl one in
    let b = c.push_tree.new.out.items in
    let u = c.push_tree.new.inner.items in (
      done ++ e ∷ [],
      all ∙ sym (append_assoc done (e ∷ []) left),
      members_with ms e.0.now v,
      members_match-push done e ms v l.invariant.3 a.stored p.1 p.2.stored,
      subst (λ ps. IsOpen c.args.out.now.items c.args.inner.now.items 123 ps b u c.mark-in-loop-name.new.self.text c.mark-in-loop-name.new.self.tables c.mark-in-loop-name.new.self.marks.items)
          (append_assoc (member_pieces ms) (k ∷ []) (piece_of 58 v ∷ []) ∙ sym (pieces-members_with ms e.0.now v)) (open_is _ _ _ _ _ _ _ _ _ b u two p.2.text p.2.tables),
    )

pub push_sorted-end-requires : goal.push_sorted-end-requires
push_sorted-end-requires t c = let i = c.loop-name.invariant in (_, _, 123, member_pieces i.2, i.4)

pub push_sorted-returns-clause-ordered : goal.push_sorted-returns-clause-ordered
push_sorted-returns-clause-ordered t c = c.iter-name-items.ensures.ordered

pub push_sorted-returns-clause-pushed : goal.push_sorted-returns-clause-pushed
push_sorted-returns-clause-pushed t c =
    let i = c.loop-name.invariant in
    let es = c.args.sorted.now.entries in
    let ms = i.2 in
    let all : es ≡ i.0 = i.1 ∙ ap (λ x. i.0 ++ x) c.in-None.ensures.steps.0 ∙ append-nil i.0 in
    let matched : MembersMatch es ms = subst (λ x. MembersMatch x ms) (sym all) i.3 in
    let made = c.in_ok-end.ensures _ _ 123 (member_pieces ms) i.4 in
    (ms, matched, record { text = object_text _ (member_pieces ms) ms _ refl made.0; tables = object_tables _ (member_pieces ms) ms _ refl made.1; stored = members_stored es ms c.iter-name-items.ensures.ordered matched })
