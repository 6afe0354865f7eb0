use Rattle.std.proofs.Common.{ap, ◌∙◌}
use Rattle.mg_packed.specs.Read.{value_in}
use Rattle.mg_packed.proofs.Valued.{valued}
use Rattle.mg_packed.proofs.packed.Packed.copy.Goals as goal

pub joined-requires : goal.joined-requires
joined-requires c = (c.part-part.result, c.tables.ensures.stored, c.text.ensures, c.tables.ensures.tables)

pub returns : goal.returns
returns c = c.in_ok-packed.ensures ∙ ap value_in c.text.ensures ∙ valued c.part-part.result c.tables.ensures.stored ∙ c.part-part.ensures
