use Rattle.std.proofs.Common.{◌≡◌, take}
use Rattle.std.specs.List.{AllByRecursion}
use Rattle.mg_shard.specs.Index.{HasRows, definitions_of}
use Rattle.mg_shard.proofs.new_shards.indexes_over.Given as goal

-- the indexes so far have the definitions of those read so far, and the rows of the shard
abbrev pub invariant-loop-index : goal.invariant-loop-index
invariant-loop-index l = record {
  definitions : definitions_of l.all.items ≡ definitions_of (take l.index-index l.indexes);
  rows : AllByRecursion (HasRows l.shard.documents) l.all.items;
}
