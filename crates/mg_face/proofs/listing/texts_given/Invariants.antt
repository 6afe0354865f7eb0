use Rattle.std.proofs.Common.{◌≡◌, map, string_bytes, take}
use Rattle.mg_value.specs.View.{view}
use Rattle.mg_face.specs.Listing.{text_given}
use Rattle.mg_face.proofs.listing.texts_given.Given as goal

-- the copies are the texts of the items so far
abbrev pub invariant-loop-item : goal.invariant-loop-item
invariant-loop-item l = map string_bytes l.texts.items ≡ map text_given (map view (take l.item-index l.items))
