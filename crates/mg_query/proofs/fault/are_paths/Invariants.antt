use Rattle.std.proofs.Common.{◌≡◌, drop, map}
use Rattle.std.specs.List.{list_all}
use Rattle.mg_value.specs.View.{view}
use Rattle.mg_query.specs.Given.{gives_path}
use Rattle.mg_query.proofs.fault.are_paths.Given as goal

-- all are paths if those that are left are
abbrev pub invariant-loop-text : goal.invariant-loop-text
invariant-loop-text l = list_all gives_path (map view l.texts) ≡ list_all gives_path (map view (drop l.text-index l.texts))
