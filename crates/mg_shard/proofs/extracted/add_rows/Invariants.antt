use Rattle.std.proofs.Common.{◌≡◌, ◌++◌, take}
use Rattle.mg_shard.specs.Extracted.{rows_in}
use Rattle.mg_shard.proofs.extracted.add_rows.Given as goal

-- the rows as they came, and those of the documents so far
abbrev pub invariant-loop-document : goal.invariant-loop-document
invariant-loop-document l = l.rows.items ≡ l.fn.rows.items ++ rows_in l.columns (take l.document-index l.documents)
