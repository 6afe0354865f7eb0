use Rattle.mg_packed.proofs.Laws.{object_is}
use Rattle.mg_packed.proofs.object.Object.source.Goals as goal

pub returns-clause-holds : goal.returns-clause-holds
returns-clause-holds c = object_is _ _ _ c.self.view_is c.self.invariant.0
