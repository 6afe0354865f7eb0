use Rattle.std.proofs.Common.{◌≡◌, drop, option_map}
use Rattle.mg_rows.specs.Laws.{joined_items}
use Rattle.mg_shard.specs.Rows.{row_key}
use Rattle.mg_shard.proofs.index_rows.key_in.Given as goal

-- the parts so far, with the key at the columns that are left, are the key
abbrev pub invariant-loop-column : goal.invariant-loop-column
invariant-loop-column l = row_key l.columns l.form ≡ option_map (joined_items l.scratch) (row_key (drop l.column-index l.columns) l.form)
