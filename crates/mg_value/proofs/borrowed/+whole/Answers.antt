use Rattle.std.proofs.Common.{◌≡◌, ◌+◌, [], ◌∷◌, ◌++◌, Some, take, drop, option_map, option_and_then, string_bytes, string_cmp, refl, sym, ap, ◌∙◌, arith, rules}
use Rattle.std.proofs.lemmas.List.{take_more, drop_more}
use Rattle.std.specs.BTreeMap.{insert_entry}
use Rattle.json.specs.Json as json
use Rattle.json.specs.Value.{value_view, items_view as tree_items, members_view as tree_members}
use Rattle.json.specs.declared.value.Value.{the_lemmas as tree_lemmas}
use Rattle.json.proofs.Trees.{view-Array, view-Object as tree_view-Object}
use Rattle.serde_json.specs.Data as parsed
use Rattle.serde_json.specs.Read.{of_json, of_members}
use Rattle.mg_value.specs.Value.{whole, text, list, object, put}
use Rattle.mg_value.specs.View.{view, items_view, members_view}
use Rattle.mg_value.specs.declared.value.Json.{the_lemmas}
use Rattle.mg_value.proofs.Views.{view-List, view-Object, members_view-insert_entry}
use Rattle.mg_value.proofs.Whole.{whole_members-put}
use Rattle.mg_value.proofs.Trees.{number_parts, push_whole}
use Rattle.mg_value.proofs.borrowed.+whole.Goals as goal

pub whole-returns-in-Null : goal.whole-returns-in-Null
whole-returns-in-Null t c =
    let seen : value_view c.args.tree.now ≡ json.null = rw c.in-Null.is (search (rules, tree_lemmas)) in
    (parsed.null, ap of_json seen, search (rules, the_lemmas))

pub whole-returns-in-Bool : goal.whole-returns-in-Bool
whole-returns-in-Bool t c =
    let seen : value_view c.args.tree.now ≡ json.boolean c.in-Bool.flag = rw c.in-Bool.is (search (rules, tree_lemmas)) in
    (parsed.boolean c.in-Bool.flag, ap of_json seen, search (rules, the_lemmas))

pub whole-returns-in_ok-whole_number-in-Number : goal.whole-returns-in_ok-whole_number-in-Number
whole-returns-in_ok-whole_number-in-Number t c =
    let seen : value_view c.args.tree.now ≡ json.number c.in-Number.text.now = rw c.in-Number.is (search (rules, tree_lemmas)) in
    let n = number_parts c.in-Number.text.now c.in_ok-whole_number-in-Number.field-0 c.in_ok-whole_number-in-Number.ensures in
    (parsed.number n.0, ap of_json seen ∙ ap (option_map parsed.number) n.1, ap (option_map whole) n.2 ∙ search (rules, the_lemmas))

pub whole-returns-in_ok-ok-in-String : goal.whole-returns-in_ok-ok-in-String
whole-returns-in_ok-ok-in-String t c =
    let seen : value_view c.args.tree.now ≡ json.string c.in-String.text.now = rw c.in-String.is (search (rules, tree_lemmas)) in
    let s = c.in_ok-ok-in-String.field-0 in
    let copied : string_bytes s ≡ c.in-String.text.now = search rules in
    (parsed.string c.in-String.text.now, ap of_json seen, ap (λ bytes. Some (text bytes)) (sym copied) ∙ search (rules, the_lemmas))

pub whole-returns-in_ok-whole_items-in-Array : goal.whole-returns-in_ok-whole_items-in-Array
whole-returns-in_ok-whole_items-in-Array t c =
    let seen : value_view c.args.tree.now ≡ json.array (tree_items c.deref.result.now) = ap value_view c.in-Array.is ∙ view-Array c.in-Array.items ∙ ap (λ ts. json.array (tree_items ts)) (sym c.deref.ensures.value) in
    let w = c.in_ok-whole_items-in-Array.ensures in
    (parsed.array w.0, ap of_json seen ∙ ap (option_map parsed.array) w.1, ap (option_map list) w.2 ∙ ap Some (sym (view-List c.in_ok-whole_items-in-Array.field-0)))

pub whole-returns-in_ok-whole_members-in-Object : goal.whole-returns-in_ok-whole_members-in-Object
whole-returns-in_ok-whole_members-in-Object t c =
    let seen : value_view c.args.tree.now ≡ json.object (tree_members c.deref-in-Object.result.now) = ap value_view c.in-Object.is ∙ tree_view-Object c.in-Object.members ∙ ap (λ ts. json.object (tree_members ts)) (sym c.deref-in-Object.ensures.value) in
    let w = c.in_ok-whole_members-in-Object.ensures in
    (parsed.object w.0, ap of_json seen ∙ ap (option_map parsed.object) w.1, ap (option_map object) w.2 ∙ ap Some (sym (view-Object c.in_ok-whole_members-in-Object.field-0)))

pub whole_items-loop-item-init : goal.whole_items-loop-item-init
whole_items-loop-item-init t c =
    let empty : c.in_ok-values.values.items ≡ [] = search rules in
    (parsed.no_items, refl, ap (λ vs. Some (items_view vs)) (sym empty))

pub whole_items-loop-item-preserved : goal.whole_items-loop-item-preserved
whole_items-loop-item-preserved t c =
    let l = c.loop-item in
    let xs = c.args.items.now in
    let x = c.item-item.result in
    let v = c.in_ok-whole.field-0 in
    let w = c.in_ok-whole.ensures in
    let more : take (l.item-index + 1) xs ≡ take l.item-index xs ++ x ∷ [] = take_more _ _ x (omega arith) ∙ ap (λ y. take l.item-index xs ++ y ∷ []) (sym c.item-item.is) in
    let pushed : c.push.new.self.items ≡ l.values.items ++ v ∷ [] = search rules in
    rw (more, pushed) (push_whole (take l.item-index xs) x l.values.items v l.invariant.0 w.0 l.invariant.1 l.invariant.2 w.1 w.2)

pub whole_members-loop-member-init : goal.whole_members-loop-member-init
whole_members-loop-member-init t c = (parsed.no_members, refl, ap (λ es. Some (members_view es)) (sym c.new-copies.ensures.empty))

pub whole_members-loop-member-preserved : goal.whole_members-loop-member-preserved
whole_members-loop-member-preserved t c =
    let l = c.loop-member in
    let xs = c.args.members.now in
    let m = c.member-item.result in
    let k = m.0.now in
    let name = c.in_ok-name.name in
    let v = c.in_ok-value.value in
    let w = c.in_ok-value.ensures in
    let ds = l.invariant.0 in
    let old = l.copies.entries in
    let left = drop (l.member-index + 1) xs in
    let here : drop l.member-index xs ≡ m ∷ left = drop_more xs l.member-index m (omega arith) ∙ ap (λ y. y ∷ left) (sym c.member-item.is) in
    let copied : string_bytes name ≡ k = search rules in
    let inserted : c.insert.new.self.entries ≡ insert_entry string_cmp old name v = search rules in
    let seen = ap members_view inserted ∙ members_view-insert_entry old name v ∙ ap (λ n. put n (view v) (members_view old)) copied in (
      parsed.put k w.0 ds,
      l.invariant.1 ∙ ap (λ ts. of_members (tree_members ts) ds) here ∙ ap (option_and_then (λ d. of_members (tree_members left) (parsed.put k d ds))) w.1,
      whole_members-put k w.0 (view v) ds (members_view old) l.invariant.2 w.2 ∙ ap Some (sym seen),
    )
