use Rattle.std.proofs.Common.{option_map, ap, ◌∙◌, arith}
use Rattle.mg_value.specs.View.{view}
use Rattle.mg_value.proofs.Items.{length-items_view, slice_get-items_view}
use Rattle.mg_value.proofs.lent.RefJsonLentValue.item.Goals as goal

pub item_in-requires : goal.item_in-requires
item_in-requires c = omega (arith, c.requires, length-items_view c.args.list.now.now)

pub returns : goal.returns
returns c = slice_get-items_view c.args.list.now.now c.args.index ∙ ap (option_map view) c.item_in.ensures
