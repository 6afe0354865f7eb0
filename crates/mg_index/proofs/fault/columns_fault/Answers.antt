use Rattle.std.proofs.Common.{Some, cond, map, sym, ap, ◌∙◌}
use Rattle.std.specs.Result.{result_err}
use Rattle.mg_value.specs.View.{view}
use Rattle.mg_index.specs.Fault.{fault_of_directions}
use Rattle.mg_index.specs.Reading.{columns_of}
use Rattle.mg_index.specs.declared.error.IndexError.TheVariants.{Shape}
use Rattle.mg_index.proofs.Faults.{columns_fault, directions_there}
use Rattle.mg_index.proofs.Fields.{item_list-items_view}
use Rattle.mg_index.proofs.fault.columns_fault.Goals as goal

pub direction_fault-requires : goal.direction_fault-requires
direction_fault-requires c = directions_there (map view c.args.fields.now) (sym c.are_columns.ensures ∙ c.if-are_columns.true)

pub returns-then-are_columns : goal.returns-then-are_columns
returns-then-are_columns c =
    let vs = map view c.args.fields.now in
    c.direction_fault.ensures ∙ sym (columns_fault vs ∙ ap (λ b. cond b (fault_of_directions vs) (Some Shape)) (sym c.are_columns.ensures ∙ c.if-are_columns.true))
    ∙ ap (λ vs. result_err (columns_of vs)) (sym (item_list-items_view c.args.fields.now))

pub returns-else-are_columns : goal.returns-else-are_columns
returns-else-are_columns c =
    let vs = map view c.args.fields.now in
    sym (columns_fault vs ∙ ap (λ b. cond b (fault_of_directions vs) (Some Shape)) (sym c.are_columns.ensures ∙ c.if-are_columns.false))
    ∙ ap (λ vs. result_err (columns_of vs)) (sym (item_list-items_view c.args.fields.now))
