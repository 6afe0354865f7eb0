use Rattle.std.proofs.Common.{◌≡◌, ◌++◌, map}
use Rattle.std.specs.Vec.Iter.{into_iter_items}
use Rattle.mg_value.specs.View.{view}
use Rattle.mg_face.proofs.entries.append.Given as goal

-- the entries so far, followed by the rest, are all entries
abbrev pub invariant-loop-entry : goal.invariant-loop-entry
invariant-loop-entry l = record {
  can_next : (goal.iterator-loop-entry).can_next l.entry-iterator;
  is_finite : (goal.iterator-loop-entry).is_finite l.entry-iterator;
  entries : map view l.fn.found.items ++ map view (into_iter_items l.fn.entries) ≡ map view l.found.items ++ map view (into_iter_items l.entry-iterator);
}
