use Rattle.std.proofs.Common.{◌≡◌, true, is_some, map, sym, ap, ◌∙◌, subst}
use Rattle.mg_value.specs.View.{view}
use Rattle.mg_index.specs.Fault.{fault_of_directions}
use Rattle.mg_index.specs.Reading.{each_of, field_direction}
use Rattle.mg_index.proofs.Faults.{directions_fault}
use Rattle.mg_index.proofs.fault.direction_fault.Goals as goal

pub returns-in-Some-field_direction : goal.returns-in-Some-field_direction
returns-in-Some-field_direction c =
    let fields = c.in-Some.ensures.cases.0 in
    let there = subst (λ js. is_some (each_of field_direction (map view js)) ≡ true) fields c.requires in
    c.mixed_fault.ensures
    ∙ sym (directions_fault (view c.in-Some.first.now) (map view c.in-Some.others.now) c.in-Some-field_direction.direction there (sym c.field_direction.ensures ∙ c.in-Some-field_direction.is))
    ∙ ap (λ js. fault_of_directions (map view js)) (sym fields)
