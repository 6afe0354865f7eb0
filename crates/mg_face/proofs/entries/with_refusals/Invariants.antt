use Rattle.std.proofs.Common.{◌≡◌, ◌++◌, map, option_map}
use Rattle.std.specs.Vec.Iter.{into_iter_items}
use Rattle.mg_value.specs.View.{view}
use Rattle.mg_face.specs.Entries.{with_refusals}
use Rattle.mg_face.proofs.entries.with_refusals.Given as goal

-- the entries so far, followed by the rest at their refusals, are all entries at their refusals
abbrev pub invariant-loop-refusal : goal.invariant-loop-refusal
invariant-loop-refusal l = record {
  can_next : (goal.iterator-loop-refusal).can_next l.refusal-iterator;
  is_finite : (goal.iterator-loop-refusal).is_finite l.refusal-iterator;
  entries : with_refusals (map (option_map view) l.fn.refusals.items) (map view l.fn.entries.items)
      ≡ map view l.found.items ++ with_refusals (map (option_map view) (into_iter_items l.refusal-iterator)) (map view (into_iter_items l.entries));
}
