use Rattle.mg_bookmark.proofs.Carried.{read_back}
use Rattle.mg_bookmark.proofs.laws.what_is_spelled_is_read.Goals as goal

pub returns : goal.returns
returns c = read_back
