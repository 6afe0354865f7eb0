use Rattle.std.proofs.Common.{◌≡◌, drop, option_map}
use Rattle.std.specs.List.{filter_map, fold}
use Rattle.mg_normal.specs.View.{atoms_view}
use Rattle.mg_index.specs.Bound.{bounds_on}
use Rattle.mg_range.specs.LentLimit.{lent_limit_view, tightened}
use Rattle.mg_range.specs.Range.{limit_of, tightest}
use Rattle.mg_range.proofs.lent_limit.tightest.Given as goal

-- the atoms that are left tighten the best so far to the tightest
abbrev pub invariant-loop-atom : goal.invariant-loop-atom
invariant-loop-atom l =
    tightest l.direction (bounds_on (atoms_view l.atoms) l.column)
    ≡ fold (tightened l.direction) (option_map lent_limit_view l.best) (filter_map (limit_of l.direction) (bounds_on (atoms_view (drop l.atom-index l.atoms)) l.column))
