use Rattle.std.proofs.Common.{◌≡◌, take}
use Rattle.mg_collate.specs.Row.{rows_view}
use Rattle.mg_merge.specs.Merged.{lent_view}
use Rattle.mg_merge.proofs.calls.copy_rows.Given as goal

abbrev pub invariant-loop-row : goal.invariant-loop-row
invariant-loop-row l = rows_view l.rows.items ≡ rows_view (lent_view (take l.row-index l.lent))
