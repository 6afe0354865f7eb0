use Rattle.std.proofs.Common.{◌≡◌, drop, map}
use Rattle.std.specs.List.{list_all}
use Rattle.mg_value.specs.View.{view}
use Rattle.mg_face.specs.Listing.{is_text}
use Rattle.mg_face.proofs.options.all_texts.Given as goal

-- all are texts if those that are left are
abbrev pub invariant-loop-item : goal.invariant-loop-item
invariant-loop-item l = list_all is_text (map view l.items) ≡ list_all is_text (map view (drop l.item-index l.items))
