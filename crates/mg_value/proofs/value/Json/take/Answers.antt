use Rattle.std.proofs.Common.{◌≡◌, option_map, sym, ap, ◌∙◌}
use Rattle.mg_value.specs.Value.{object, member_of, without_member}
use Rattle.mg_value.specs.View.{view, members_view}
use Rattle.mg_value.proofs.Views.{view-Object}
use Rattle.mg_value.proofs.Lookup.{view-lookup, members_view-remove_entry}
use Rattle.mg_value.proofs.value.Json.take.Goals as goal

pub returns-in-Object-clause-taken : goal.returns-in-Object-clause-taken
returns-in-Object-clause-taken c =
    let k = c.args.name.now in
    let es = c.in-Object.members.entries in
    let seen : view c.args.self.now ≡ object (members_view es) = ap view (sym c.replace.ensures.value ∙ c.in-Object.is) ∙ view-Object c.in-Object.members in
    ap (option_map view) c.remove-found.ensures.value ∙ view-lookup k es ∙ ap (member_of k) (sym seen)

pub returns-in-Object-clause-rest : goal.returns-in-Object-clause-rest
returns-in-Object-clause-rest c =
    let k = c.args.name.now in
    let es = c.in-Object.members.entries in
    let seen : view c.args.self.now ≡ object (members_view es) = ap view (sym c.replace.ensures.value ∙ c.in-Object.is) ∙ view-Object c.in-Object.members in
    view-Object c.remove-found.new.self ∙ ap (λ left. object (members_view left)) c.remove-found.ensures.entries ∙ ap object (members_view-remove_entry k es) ∙ ap (without_member k) (sym seen)
