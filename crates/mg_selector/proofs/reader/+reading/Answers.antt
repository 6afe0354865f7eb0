use Rattle.std.proofs.Common.{◌≡◌, ◌+◌, [], ◌∷◌, drop, length, Ok, string_bytes, sym, ap, ◌∙◌, subst, arith, rules}
use Rattle.std.proofs.lemmas.List.{drop_more, drop_all}
use Rattle.mg_value.specs.View.{view, items_view, members_view}
use Rattle.mg_value.proofs.Views.{Entry, view-Object}
use Rattle.mg_selector.specs.Fault.{fmap}
use Rattle.mg_selector.specs.Reading.{ReadsAs, by_kind, of_object, of_arms, of_items, of_members, named, argument}
use Rattle.mg_selector.specs.View.{selector_of}
use Rattle.mg_selector.proofs.Arms.{arms_before, one_more, all_before, argument-object}
use Rattle.mg_selector.proofs.reader.+reading.Goals as goal

pub read_argument-returns-else-is_empty : goal.read_argument-returns-else-is_empty
read_argument-returns-else-is_empty t c =
    let v = view c.args.value.now in
    let inner = of_object v in
    let some : length c.in-Object.members.entries ≡ 0 → ⊥ = search rules in
    let item_view = ap view c.in-Object.is ∙ view-Object c.in-Object.members in
    subst (ReadsAs selector_of c.read_object.result) (sym (ap (λ x. argument x inner) item_view ∙ argument-object c.in-Object.members.entries inner some)) c.read_object.ensures

pub read_items-loop-item-preserved : goal.read_items-loop-item-preserved
read_items-loop-item-preserved t c =
    let l = c.loop-item in
    let xs = c.args.items.now in
    let x = c.item-item.result in
    let left = drop (l.item-index + 1) xs in
    let here : drop l.item-index xs ≡ x ∷ left = drop_more xs l.item-index x (omega arith) ∙ ap (λ y. y ∷ left) (sym c.item-item.is) in
    l.invariant ∙ ap (λ ys. fmap (arms_before l.found.items) (of_items (items_view ys))) here
    ∙ one_more l.found.items c.in_ok-arm.arm (of_object (view x)) (of_items (items_view left)) c.in_ok-arm.ensures
    ∙ ap (λ ss. fmap (arms_before ss) (of_items (items_view left))) (sym c.in_ok-push.ensures.items)

pub read_items-returns : goal.read_items-returns
read_items-returns t c =
    let l = c.loop-item in
    let none : drop l.item-index c.args.items.now ≡ [] = drop_all l.item-index c.args.items.now (omega arith) in
    l.invariant ∙ ap (λ ys. fmap (arms_before l.found.items) (of_items (items_view ys))) none ∙ ap Ok (all_before l.found.items)

pub read_members-loop-name-preserved : goal.read_members-loop-name-preserved
read_members-loop-name-preserved t c =
    let l = c.loop-name in
    let e : Entry = (c.in-Some.name.now, c.in-Some.value.now) in
    let v = view e.1 in
    let left = c.next.new.self in
    let spelled : named (string_bytes e.0) v (of_object v) (of_arms v) ≡ Ok (selector_of c.in_ok-arm.arm) = ap (λ k. named k v (of_object v) (of_arms v)) (sym c.as_str.ensures.value) ∙ c.in_ok-arm.ensures in (
      tt,
      tt,
      l.invariant.2 ∙ ap (λ es. fmap (arms_before l.found.items) (of_members (members_view es))) c.in-Some.ensures.steps
          ∙ one_more l.found.items c.in_ok-arm.arm (named (string_bytes e.0) v (of_object v) (of_arms v)) (of_members (members_view left)) spelled
          ∙ ap (λ ss. fmap (arms_before ss) (of_members (members_view left))) (sym c.in_ok-push.ensures.items),
    )

pub read_members-returns : goal.read_members-returns
read_members-returns t c =
    let l = c.loop-name in
    l.invariant.2 ∙ ap (λ es. fmap (arms_before l.found.items) (of_members (members_view es))) c.in-None.ensures.steps.0 ∙ ap Ok (all_before l.found.items)

pub read_member-returns : goal.read_member-returns
read_member-returns t c =
    let v = view c.args.value.now in
    let k = c.args.name.now in
    subst (ReadsAs selector_of c.read_by_kind.result) (ap (λ w. by_kind w k v (of_object v) (of_arms v)) c.kind_of_name.ensures) c.read_by_kind.ensures
