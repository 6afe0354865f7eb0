use Rattle.std.proofs.Common.{◌≡◌, drop}
use Rattle.std.specs.List.{fold}
use Rattle.mg_value.specs.View.{view}
use Rattle.mg_path.specs.Part.{projection_of, with_part}
use Rattle.mg_path.proofs.projection.project.Given as goal

-- the paths left complete the projection
abbrev pub invariant-loop-path : goal.invariant-loop-path
invariant-loop-path g l =
    let v = g.L.LentValue.value l.value in
    projection_of l.paths v ≡ fold (with_part v) (view l.projected) (drop l.path-index l.paths)
