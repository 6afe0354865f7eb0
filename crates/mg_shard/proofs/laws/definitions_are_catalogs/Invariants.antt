use Rattle.mg_shard.specs.Shard.{shards_view}
use Rattle.mg_shard.proofs.Catalogs.{AreCatalogs}
use Rattle.mg_shard.proofs.laws.definitions_are_catalogs.Given as goal

-- the definitions of each shard so far are a catalog
abbrev pub invariant-loop-i : goal.invariant-loop-i
invariant-loop-i l = AreCatalogs (shards_view l.shards) l.i
