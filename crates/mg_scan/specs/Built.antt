-- What a build makes of a shard.
use Rattle.mg_index.specs.Catalog.{with_definition}
use Rattle.mg_index.specs.Definition.{IndexDefinition}
use Rattle.mg_shard.specs.Shard.{ShardView}

-- the shard with an index of this definition, which replaces an index of the same design document and name
abbrev pub with_index : IndexDefinition → ShardView → ShardView
with_index d s = record s { definitions = with_definition d s.definitions }
