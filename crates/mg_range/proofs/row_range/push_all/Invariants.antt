use Rattle.std.proofs.Common.{◌≡◌, drop}
use Rattle.mg_value.specs.View.{items_view}
use Rattle.mg_rows.specs.Laws.{joined_items}
use Rattle.mg_range.proofs.row_range.push_all.Given as goal

-- the key so far with the values that are left makes the whole key
abbrev pub invariant-loop-value : goal.invariant-loop-value
invariant-loop-value l = joined_items l.key (items_view (drop l.value-index l.values)) ≡ joined_items l.initial.key (items_view l.values)
