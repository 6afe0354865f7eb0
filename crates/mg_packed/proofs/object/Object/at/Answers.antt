use Rattle.mg_packed.proofs.Laws.{object_headed}
use Rattle.mg_packed.proofs.object.Object.at.Goals as goal

pub head-head-requires : goal.head-head-requires
head-head-requires c = object_headed _ _ _ c.requires.1
