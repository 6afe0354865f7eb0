use Rattle.std.proofs.Common.{◌≡◌, map, take}
use Rattle.mg_collate.specs.Row.{rows_view}
use Rattle.mg_scan.specs.Hit.{hit_rows}
use Rattle.mg_scan.proofs.calls.copy_row_lists.Given as goal

abbrev pub invariant-loop-hits : goal.invariant-loop-hits
invariant-loop-hits l = map (λ rows. rows_view rows.items) l.lists.items ≡ map (λ hits. hit_rows hits.items) (take l.hits-index l.found)
