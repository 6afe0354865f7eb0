use Rattle.std.proofs.Common.{◌≡◌, find, map}
use Rattle.std.specs.List.{list_any}
use Rattle.std.specs.Vec.Iter.{into_iter_items}
use Rattle.mg_revtree.specs.History.{Paths}
use Rattle.mg_revtree.specs.Revision.{same_revision}
use Rattle.mg_revtree.specs.Tree.{StandsFor}
use Rattle.mg_engine.specs.More.{latest_of, path_of}
use Rattle.mg_engine.proofs.more.latest_of.Given as goal

-- the best such leaf is among those that are left
abbrev pub invariant-loop-leaf : goal.invariant-loop-leaf
invariant-loop-leaf l = record {
  can_next : (goal.iterator-loop-leaf).can_next l.leaf-iterator;
  is_finite : (goal.iterator-loop-leaf).is_finite l.leaf-iterator;
  given : (h : Paths) → StandsFor l.fn.tree h
      → latest_of h l.fn.rev ≡ find (λ k. list_any (same_revision l.fn.rev) (path_of h k.rev)) (map (λ x. x.now) (into_iter_items l.leaf-iterator));
}
