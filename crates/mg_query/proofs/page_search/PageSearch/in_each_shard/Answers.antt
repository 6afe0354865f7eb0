use Rattle.std.proofs.Common.{refl}
use Rattle.mg_query.proofs.page_search.PageSearch.in_each_shard.Goals as goal

pub returns : goal.returns
returns c = record { target = c.target.ensures; normal = refl; range = c.requires.range; after = c.as_ref.ensures.value; take = c.row_count.ensures; direction = refl }
