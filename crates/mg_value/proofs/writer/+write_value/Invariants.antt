use Rattle.std.proofs.Common.{◌≡◌, List, ◌++◌, drop}
use Rattle.mg_value.specs.Held.{ItemsAreHeld, MembersAreHeld, items_tokens_of, members_tokens_of}
use Rattle.mg_value.specs.View.{items_view, members_view}
use Rattle.mg_value.proofs.Views.{Entry}
use Rattle.mg_value.proofs.writer.+write_value.Given as goal

-- the tokens so far and those of the items left are all the tokens to write
abbrev pub invariant-write_items-loop-item : goal.invariant-write_items-loop-item
invariant-write_items-loop-item l =
    let left = items_view (drop l.item-index l.items) in
    (l.out.before ≡ l.initial.out.before)
    × (l.initial.out.tokens ++ items_tokens_of (items_view l.items) ≡ l.out.tokens ++ items_tokens_of left)
    × (ItemsAreHeld left → ItemsAreHeld (items_view l.items))

abbrev pub invariant-write_members-loop-name : goal.invariant-write_members-loop-name
invariant-write_members-loop-name l =
    let left = members_view l.name-iterator in
    (l.out.before ≡ l.initial.out.before)
    × (l.initial.out.tokens ++ members_tokens_of (members_view l.members.entries) ≡ l.out.tokens ++ members_tokens_of left)
    × (done : List Entry) × (l.members.entries ≡ done ++ l.name-iterator)
    × (MembersAreHeld left → MembersAreHeld (members_view l.members.entries))
