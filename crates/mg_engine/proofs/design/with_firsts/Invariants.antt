use Rattle.std.proofs.Common.{◌≡◌, map}
use Rattle.std.specs.Vec.Iter.{into_iter_items}
use Rattle.mg_value.specs.Value.{no_members, object}
use Rattle.mg_value.specs.View.{view}
use Rattle.mg_engine.specs.Design.{with_firsts}
use Rattle.mg_engine.proofs.design.with_firsts.Given as goal

-- the object so far, with the first members of the values that are left, is the whole
abbrev pub invariant-loop-value : goal.invariant-loop-value
invariant-loop-value l = record {
  can_next : (goal.iterator-loop-value).can_next l.value-iterator;
  is_finite : (goal.iterator-loop-value).is_finite l.value-iterator;
  merged : with_firsts (map view l.fn.values.items) (object no_members) ≡ with_firsts (map view (into_iter_items l.value-iterator)) (view l.merged);
}
