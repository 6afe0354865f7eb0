use Rattle.std.proofs.Common.{◌≡◌, length}
use Rattle.mg_shard.specs.Index.{definitions_of}
use Rattle.mg_shard.specs.Redealt.{AreMade, documents_view}
use Rattle.mg_shard.proofs.new_shards.make_in_turn.Given as goal

-- the shards so far are made
abbrev pub invariant-loop-i : goal.invariant-loop-i
invariant-loop-i l = record {
  number : length l.shards.items ≡ l.i;
  made : AreMade (documents_view l.documents) l.places (definitions_of l.indexes) l.shards.items;
}
