use Rattle.mg_query.proofs.Chained.{pages_that_read_back_join}
use Rattle.mg_query.proofs.laws.pages_that_read_back_join.Goals as goal

pub returns : goal.returns
returns c = pages_that_read_back_join
