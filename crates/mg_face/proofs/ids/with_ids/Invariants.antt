use Rattle.std.proofs.Common.{◌≡◌, ◌++◌, map}
use Rattle.std.specs.Vec.Iter.{into_iter_items}
use Rattle.mg_value.specs.View.{view}
use Rattle.mg_face.specs.Ids.{with_ids}
use Rattle.mg_face.proofs.ids.with_ids.Given as goal

-- the documents so far, followed by the rest with ids from here on, are all documents with ids
abbrev pub invariant-loop-document : goal.invariant-loop-document
invariant-loop-document l = record {
  can_next : (goal.iterator-loop-document).can_next l.document-iterator;
  is_finite : (goal.iterator-loop-document).is_finite l.document-iterator;
  documents : with_ids l.fn.first (map view l.fn.documents.items) ≡ map view l.found.items ++ with_ids l.number (map view (into_iter_items l.document-iterator));
}
