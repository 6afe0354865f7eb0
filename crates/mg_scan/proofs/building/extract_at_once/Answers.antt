use denote.Param.Send.{sendable}
use Rattle.std.proofs.Common.{[], sym, ◌∙◌}
use Rattle.std.proofs.Crossing.{crosses}
use Rattle.std.proofs.MapsCrossing.{crosses as maps}
use Rattle.mg_pages.proofs.Crossing.{pages_send, pages_sync}
use Rattle.mg_rows.proofs.row.RowBytes.TheSendSync as rows
use Rattle.mg_shard.specs.Shard.{shards_view}
use Rattle.mg_scan.proofs.Builds.{rows-called}
use Rattle.mg_scan.proofs.Lent.{build_sync}
use Rattle.mg_scan.proofs.building.extract_at_once.Goals as goal

-- the rows that the threads return may be sent between threads, and what they read may be shared
pub map_from_one_thread-requires-send-X : goal.map_from_one_thread-requires-send-X
map_from_one_thread-requires-send-X g c κs within = search (sendable, crosses, maps, pages_send, pages_sync, rows.the_send, rows.the_sync) depth 40

pub map_from_one_thread-requires-sync-F : goal.map_from_one_thread-requires-sync-F
map_from_one_thread-requires-sync-F g c κs within = record { shared = (build_sync _ _ [] _ _ _ c.type_bounds.sync-R c.type_bounds.sync-G).shared }

pub returns-clause-rows : goal.returns-clause-rows
returns-clause-rows g c =
    rows-called c.args.definition.now (shards_view c.args.shards.now) c.args.from c.args.count c.in_ok-rows.rows.items (sym c.in_ok-rows.rows.ok.0 ∙ c.in_ok-rows.ensures.len)
    (λ i r less. (c.in_ok-rows.ensures.each i r less).1.met)
