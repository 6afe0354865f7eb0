use Rattle.std.proofs.Common.{◌≡◌, take}
use Rattle.mg_pages.specs.Runs.{elements_view}
use Rattle.mg_shard.specs.Extracted.{rows_in}
use Rattle.mg_shard.proofs.extracted.rows_in_order.Given as goal

-- the rows of the documents of the pages so far
abbrev pub invariant-loop-run : goal.invariant-loop-run
invariant-loop-run l = l.rows.items ≡ rows_in l.columns (elements_view (take l.run-index l.runs))
