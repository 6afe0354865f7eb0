use Rattle.std.proofs.Common.{◌≡◌, drop, map}
use Rattle.std.specs.List.{list_all}
use Rattle.mg_value.specs.View.{view}
use Rattle.mg_query.specs.Given.{gives_sort}
use Rattle.mg_query.proofs.fault.are_sort_fields.Given as goal

-- all are sort fields if those that are left are
abbrev pub invariant-loop-field : goal.invariant-loop-field
invariant-loop-field l = list_all gives_sort (map view l.fields) ≡ list_all gives_sort (map view (drop l.field-index l.fields))
