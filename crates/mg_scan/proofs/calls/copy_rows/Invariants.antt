use Rattle.std.proofs.Common.{◌≡◌, take}
use Rattle.mg_collate.specs.Row.{rows_view}
use Rattle.mg_scan.specs.Hit.{hit_rows}
use Rattle.mg_scan.proofs.calls.copy_rows.Given as goal

abbrev pub invariant-loop-hit : goal.invariant-loop-hit
invariant-loop-hit l = rows_view l.rows.items ≡ hit_rows (take l.hit-index l.hits)
