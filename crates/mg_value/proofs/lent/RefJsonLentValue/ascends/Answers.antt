use Rattle.mg_value.proofs.Names.{names_ascend}
use Rattle.mg_value.proofs.lent.RefJsonLentValue.ascends.Goals as goal

pub returns : goal.returns
returns c = names_ascend c.args.object.now.now.entries c.iter.ensures.ordered
