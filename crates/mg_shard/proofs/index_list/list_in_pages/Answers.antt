use Rattle.mg_shard.proofs.Catalogued.{catalog_ascends}
use Rattle.mg_shard.proofs.index_list.list_in_pages.Goals as goal

pub from_sorted-requires : goal.from_sorted-requires
from_sorted-requires c = catalog_ascends c.args.indexes.now c.requires
