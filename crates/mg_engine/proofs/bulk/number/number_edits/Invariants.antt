use Rattle.std.proofs.Common.{◌≡◌, ◌++◌}
use Rattle.std.specs.Vec.Iter.{into_iter_items}
use Rattle.mg_engine.specs.Bulk.{counter_after, numbered}
use Rattle.mg_engine.proofs.bulk.number.number_edits.Given as goal

-- the edits so far, followed by the rest with numbers from here on, are all edits with numbers
abbrev pub invariant-loop-edit : goal.invariant-loop-edit
invariant-loop-edit l = record {
  can_next : (goal.iterator-loop-edit).can_next l.edit-iterator;
  is_finite : (goal.iterator-loop-edit).is_finite l.edit-iterator;
  edits : numbered l.fn.last l.fn.edits.items ≡ l.found.items ++ numbered l.number (into_iter_items l.edit-iterator);
  counter : counter_after l.fn.last l.fn.edits.items ≡ counter_after l.number (into_iter_items l.edit-iterator);
}
