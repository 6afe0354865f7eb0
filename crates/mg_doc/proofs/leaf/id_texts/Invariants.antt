use Rattle.std.proofs.Common.{◌≡◌, ◌++◌, map, string_bytes}
use Rattle.std.specs.Vec.Iter.{into_iter_items}
use Rattle.mg_value.specs.View.{view}
use Rattle.mg_doc.specs.Leaf.{id_texts}
use Rattle.mg_doc.proofs.leaf.id_texts.Given as goal

-- the texts so far, with those of the ids that are left, are all texts
abbrev pub invariant-loop-id : goal.invariant-loop-id
invariant-loop-id l = record {
  can_next : (goal.iterator-loop-id).can_next l.id-iterator;
  is_finite : (goal.iterator-loop-id).is_finite l.id-iterator;
  given : id_texts (map string_bytes l.fn.ids.items) ≡ map view l.texts.items ++ id_texts (map string_bytes (into_iter_items l.id-iterator));
}
