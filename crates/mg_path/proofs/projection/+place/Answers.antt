use Rattle.std.proofs.Common.{string_bytes, string_cmp, map, ap, sym, ◌∙◌}
use Rattle.std.specs.BTreeMap.{insert_entry}
use Rattle.std.specs.Map.{lookup, set_value}
use Rattle.mg_value.specs.View.{view}
use Rattle.mg_path.specs.Part.{placed}
use Rattle.mg_path.proofs.Members.{at_name, placed-there, placed-new}
use Rattle.mg_path.proofs.projection.+place.Goals as goal

pub place_member-returns-in-Some : goal.place_member-returns-in-Some
place_member-returns-in-Some t c =
    placed-there (string_bytes c.args.name.now) (map string_bytes c.args.deeper.now) (view c.args.part) c.args.members.entries _ c.in-Some.there.now c.replace-in-Some.new.dest
    (ap view c.replace-in-Some.ensures.after ∙ c.in_ok-filled.ensures ∙ ap (λ v. placed (map string_bytes c.args.deeper.now) (view c.args.part) (view v)) c.replace.ensures.value)
    c.get_mut.ensures.ordered
    (ap (λ name. lookup (at_name name) c.args.members.entries) (sym c.as_str.ensures.value) ∙ sym c.in-Some.ensures.value)
    ((c.get_mut.follows.holds c.replace-in-Some.new.dest).0 ∙ ap (λ name. set_value (at_name name) c.args.members.entries c.replace-in-Some.new.dest) c.as_str.ensures.value)

pub place_member-returns : goal.place_member-returns
place_member-returns t c =
    placed-new (string_bytes c.args.name.now) (map string_bytes c.args.deeper.now) (view c.args.part) c.args.members.entries c.insert.new.self.entries c.in_ok-clone.field-0 c.in_ok-filled-2.filled
    (c.in_ok-filled-2.ensures ∙ ap (placed (map string_bytes c.args.deeper.now) (view c.args.part)) c.empty_object.ensures)
    (ap (λ name. lookup (at_name name) c.args.members.entries) (sym c.as_str.ensures.value) ∙ sym c.in_default.ensures.value)
    c.in_ok-clone.ensures.cases
    (c.in_ok-insert.ensures.entries ∙ ap (λ members. insert_entry string_cmp members.entries c.in_ok-clone.field-0 c.in_ok-filled-2.filled) c.get_mut.follows.holds-at-none)
