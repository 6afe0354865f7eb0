use Rattle.std.proofs.Common.{◌≡◌, ◌++◌, map, option_map}
use Rattle.std.specs.Vec.Iter.{into_iter_items}
use Rattle.serde_json.specs.View.{items_view as data_items}
use Rattle.mg_value.specs.View.{view}
use Rattle.mg_face.specs.Bulk.{executed, refusals_of}
use Rattle.mg_face.proofs.bulk.sorted.Given as goal

-- what was found so far, followed by what comes of the rest, is all that there is
abbrev pub invariant-loop-document : goal.invariant-loop-document
invariant-loop-document l = record {
  can_next : (goal.iterator-loop-document).can_next l.document-iterator;
  is_finite : (goal.iterator-loop-document).is_finite l.document-iterator;
  executed : executed (data_items l.fn.documents.items) ≡ map view l.found.items ++ executed (data_items (into_iter_items l.document-iterator));
  refusals : refusals_of (data_items l.fn.documents.items)
      ≡ map (option_map view) l.refusals.items ++ refusals_of (data_items (into_iter_items l.document-iterator));
}
