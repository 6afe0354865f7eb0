use Rattle.std.proofs.Common.{◌∙◌, ap, ap₂, false, map, sym}
use Rattle.mg_value.specs.View.{view}
use Rattle.mg_value.proofs.Items.{item_list-items_of}
use Rattle.mg_engine.specs.Questions.{keys}
use Rattle.mg_face.specs.Listing.{flag_given, text_given}
use Rattle.mg_face.proofs.listing.keys_asked.Goals as goal

pub returns : goal.returns
returns c =
    ap₂ keys (c.in_ok-ids.ensures ∙ ap (map text_given) (sym (item_list-items_of (map view c.args.items.now))))
    (c.flag_given-documents.ensures ∙ ap (flag_given false) c.member.ensures)
