use Rattle.mg_packed.proofs.Laws.{part_is}
use Rattle.mg_packed.proofs.part.Part.tables.Goals as goal

pub returns-clause-tables : goal.returns-clause-tables
returns-clause-tables c = (part_is _ _ _ c.self.view_is c.self.invariant).tables

pub returns-clause-stored : goal.returns-clause-stored
returns-clause-stored c = (part_is _ _ _ c.self.view_is c.self.invariant).stored
