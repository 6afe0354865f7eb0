use Rattle.std.proofs.Common.{◌≡◌, take}
use Rattle.mg_collate.specs.Row.{rows_view}
use Rattle.mg_shard.proofs.index_rows.bytes_of_rows.Given as goal

abbrev pub invariant-loop-row : goal.invariant-loop-row
invariant-loop-row l = l.bytes.items ≡ rows_view (take l.row-index l.rows)
