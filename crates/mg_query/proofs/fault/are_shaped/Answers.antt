use Rattle.std.proofs.Common.{◌&&◌, sym, ap, ◌∙◌}
use Rattle.std.specs.List.{list_all}
use Rattle.mg_query.specs.Given.{given_view, gives_sort}
use Rattle.mg_query.proofs.Faults.{shapes_there}
use Rattle.mg_query.proofs.fault.are_shaped.Goals as goal

pub returns-then-are_paths : goal.returns-then-are_paths
returns-then-are_paths c =
    let g = given_view c.args.members in
    c.are_sort_fields.ensures ∙ sym (shapes_there g ∙ ap (λ b. b && list_all gives_sort g.sort) (sym c.are_paths.ensures ∙ c.if-are_paths.true))

pub returns-else-are_paths : goal.returns-else-are_paths
returns-else-are_paths c =
    let g = given_view c.args.members in
    c.if-are_paths.false ∙ sym (shapes_there g ∙ ap (λ b. b && list_all gives_sort g.sort) (sym c.are_paths.ensures ∙ c.if-are_paths.false))
