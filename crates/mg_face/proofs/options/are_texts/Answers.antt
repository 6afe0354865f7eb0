use Rattle.std.proofs.Common.{◌∙◌, ap, map, sym}
use Rattle.std.specs.List.{list_all}
use Rattle.mg_value.specs.View.{view}
use Rattle.mg_value.proofs.Items.{item_list-items_of}
use Rattle.mg_face.specs.Listing.{is_text}
use Rattle.mg_face.proofs.options.are_texts.Goals as goal

pub returns : goal.returns
returns c = c.all_texts.ensures ∙ ap (list_all is_text) (sym (item_list-items_of (map view c.args.items.now)))
