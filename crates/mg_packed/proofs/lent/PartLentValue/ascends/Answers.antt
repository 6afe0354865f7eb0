use Rattle.mg_packed.proofs.Parts.{names_ascend}
use Rattle.mg_packed.proofs.lent.PartLentValue.ascends.Goals as goal

pub returns : goal.returns
returns c = names_ascend c.args.object.now c.len.ensures.stored
