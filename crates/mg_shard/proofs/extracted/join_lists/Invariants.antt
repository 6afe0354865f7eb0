use Rattle.std.proofs.Common.{◌≡◌, ◌++◌}
use Rattle.std.specs.List.{flat_map}
use Rattle.std.specs.Vec.Iter.{into_iter_items}
use Rattle.std.specs.declared.alloc.Global.{Global}
use Rattle.std.specs.declared.vec.Vec.{Vec}
use Rattle.mg_collate.specs.Row.{RowValue}
use Rattle.mg_shard.proofs.extracted.join_lists.Given as goal

-- the rows joined so far, with those of the lists that are left, are all rows
abbrev pub invariant-loop-list : goal.invariant-loop-list
invariant-loop-list l = record {
  can_next : (goal.iterator-loop-list).can_next l.list-iterator;
  is_finite : (goal.iterator-loop-list).is_finite l.list-iterator;
  left : l.all.items ++ flat_map (λ (list : Vec RowValue Global). list.items) (into_iter_items l.list-iterator) ≡ flat_map (λ (list : Vec RowValue Global). list.items) l.fn.lists.items;
}
