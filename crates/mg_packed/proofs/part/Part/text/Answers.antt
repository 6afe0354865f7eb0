use Rattle.mg_packed.proofs.Laws.{part_is}
use Rattle.mg_packed.proofs.part.Part.text.Goals as goal

pub returns : goal.returns
returns c = (part_is _ _ _ c.self.view_is c.self.invariant).text
