use Rattle.mg_merge.proofs.Shards.{any_dealing, first_of_any_dealing}
use Rattle.mg_merge.proofs.laws.any_sharding.Goals as goal

pub returns-clause-joined_and_sorted : goal.returns-clause-joined_and_sorted
returns-clause-joined_and_sorted c = any_dealing

pub returns-clause-first_rows : goal.returns-clause-first_rows
returns-clause-first_rows c = first_of_any_dealing
