use Rattle.std.proofs.Common.{◌≡◌, string_bytes, sym, ap, ◌∙◌, rules}
use Rattle.mg_value.specs.Value.{object, put, with_member}
use Rattle.mg_value.specs.View.{view, members_view}
use Rattle.mg_value.proofs.Views.{view-Object, members_view-insert_entry}
use Rattle.mg_value.proofs.value.Json.insert.Goals as goal

pub returns-in_ok-inserted-in-Object-clause-ok : goal.returns-in_ok-inserted-in-Object-clause-ok
returns-in_ok-inserted-in-Object-clause-ok c =
    let v = view c.args.value in
    let es = c.in-Object.members.entries in
    let seen : view c.args.self.now ≡ object (members_view es) = ap view (sym c.replace.ensures.value ∙ c.in-Object.is) ∙ view-Object c.in-Object.members in
    let named : string_bytes c.in_ok-key.key ≡ c.args.name.now = search rules in
    view-Object c.insert-inserted.new.self ∙ ap (λ all. object (members_view all)) c.in_ok-inserted-in-Object.ensures.entries ∙ ap object (members_view-insert_entry es c.in_ok-key.key c.args.value)
    ∙ ap (λ k. object (put k v (members_view es))) named ∙ ap (with_member c.args.name.now v) (sym seen)
