use Rattle.std.proofs.Common.{◌≡◌, drop}
use Rattle.mg_shard.specs.Rows.{row_key}
use Rattle.mg_shard.proofs.index_rows.have_same_key.Given as goal

-- if the keys at the columns that are left are the same, all of both keys is
abbrev pub invariant-loop-column : goal.invariant-loop-column
invariant-loop-column l = row_key (drop l.column-index l.columns) l.form ≡ row_key (drop l.column-index l.columns) l.other
    → row_key l.columns l.form ≡ row_key l.columns l.other
