use denote.Param.Send.{sendable}
use Rattle.std.proofs.Crossing.{crosses}
use Rattle.std.proofs.MapsCrossing.{crosses as maps}
use Rattle.mg_rows.proofs.row.RowBytes.TheSendSync as rows
use Rattle.mg_shard.specs.Shard.{shards_view}
use Rattle.mg_shard.proofs.Crossing.{document_sync, shard_sync}
use Rattle.mg_scan.proofs.Lent.{scan_sync}
use Rattle.mg_scan.proofs.Maps.{zip_documents, zip_rows}
use Rattle.mg_scan.proofs.scanning.scan_lent.Goals as goal

-- what the workers return may be sent between threads, and what they read may be shared
pub map_from_one_thread-requires-send-X : goal.map_from_one_thread-requires-send-X
map_from_one_thread-requires-send-X g c κs within = search (sendable, crosses, maps, document_sync, shard_sync, rows.the_sync) depth 40

pub map_from_one_thread-requires-sync-F : goal.map_from_one_thread-requires-sync-F
map_from_one_thread-requires-sync-F g c κs within = record { shared = (scan_sync _ _ _ _ _ _ c.type_bounds.sync-G).shared }

pub returns-clause-rows : goal.returns-clause-rows
returns-clause-rows g c = zip_rows _ (shards_view c.args.shards.now) c.in_ok-lists.lists.items c.in_ok-lists.ensures

pub returns-clause-hits : goal.returns-clause-hits
returns-clause-hits g c = zip_documents _ (shards_view c.args.shards.now) c.in_ok-lists.lists.items c.in_ok-lists.ensures
