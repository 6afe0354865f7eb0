use Rattle.std.proofs.Common.{◌≡◌, drop, map}
use Rattle.std.specs.List.{list_all}
use Rattle.mg_value.specs.View.{view}
use Rattle.mg_index.specs.Fault.{is_directed}
use Rattle.mg_query.proofs.fault.mixed_fault.Given as goal

-- all have the direction if those that are left have it
abbrev pub invariant-loop-field : goal.invariant-loop-field
invariant-loop-field l = list_all (is_directed l.direction) (map view l.others) ≡ list_all (is_directed l.direction) (map view (drop l.field-index l.others))
