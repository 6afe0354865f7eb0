use Rattle.std.proofs.Common.{◌≡◌, ◌++◌, map, string_bytes}
use Rattle.std.specs.Vec.Iter.{into_iter_items}
use Rattle.mg_value.specs.View.{view}
use Rattle.mg_revtree.specs.Revision.{run_from}
use Rattle.mg_engine.specs.More.{info_value}
use Rattle.mg_engine.proofs.more.infos.Given as goal

-- the entries so far, with those of the ids that are left, are all entries
abbrev pub invariant-loop-id : goal.invariant-loop-id
invariant-loop-id l = record {
  can_next : (goal.iterator-loop-id).can_next l.id-iterator;
  is_finite : (goal.iterator-loop-id).is_finite l.id-iterator;
  given : map (info_value l.newest) (run_from l.newest (map string_bytes l.fn.ids.items))
      ≡ map view l.infos.items ++ map (info_value l.newest) (run_from l.pos (map string_bytes (into_iter_items l.id-iterator)));
  same : l.newest ≡ l.fn.newest;
}
