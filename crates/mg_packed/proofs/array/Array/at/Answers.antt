use Rattle.mg_packed.proofs.Laws.{array_headed}
use Rattle.mg_packed.proofs.array.Array.at.Goals as goal

pub head-head-requires : goal.head-head-requires
head-head-requires c = array_headed _ _ _ c.requires.1
