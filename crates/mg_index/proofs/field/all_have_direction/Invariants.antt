use Rattle.std.proofs.Common.{◌≡◌, drop}
use Rattle.std.specs.List.{list_all}
use Rattle.mg_index.specs.Reading.{is_same}
use Rattle.mg_index.proofs.field.all_have_direction.Given as goal

-- the result for all others is the result for those that are left
abbrev pub invariant-loop-other : goal.invariant-loop-other
invariant-loop-other l = list_all (is_same l.direction) l.others ≡ list_all (is_same l.direction) (drop l.other-index l.others)
