use Rattle.std.proofs.Common.{◌≡◌, drop}
use Rattle.std.specs.List.{list_any}
use Rattle.mg_path.specs.Equal.{path_eq}
use Rattle.mg_index.proofs.usable.is_among.Given as goal

-- the result for all paths is the result for those that are left
abbrev pub invariant-loop-path : goal.invariant-loop-path
invariant-loop-path l = list_any (path_eq l.column) l.paths ≡ list_any (path_eq l.column) (drop l.path-index l.paths)
