use Rattle.mg_shard.specs.Shard.{shards_view}
use Rattle.mg_scan.specs.Worked.{AllShardHits}
use Rattle.mg_scan.proofs.workers.search_claimed.Given as goal

abbrev pub invariant-loop-turn : goal.invariant-loop-turn
invariant-loop-turn g l = AllShardHits l.search (shards_view l.shards) l.all.items
