use Rattle.std.proofs.Common.{◌≡◌, ◌++◌, ◌<◌, length}
use Rattle.std.specs.List.{AllByRecursion, flat_map}
use Rattle.std.specs.Vec.Iter.{into_iter_items}
use Rattle.mg_pages.specs.Subtree.{elements_of}
use Rattle.mg_pages.proofs.new_page.children_of.Given as goal

-- the children so far, and the pages that are left
abbrev pub invariant-loop-page : goal.invariant-loop-page
invariant-loop-page g l = record {
  can_next : (goal.iterator-loop-page g).can_next l.page-iterator;
  is_finite : (goal.iterator-loop-page g).is_finite l.page-iterator;
  some : AllByRecursion (λ p. 0 < length p) (into_iter_items l.page-iterator);
  view : elements_of l.children.items ++ flat_map (λ p. p) (into_iter_items l.page-iterator) ≡ flat_map (λ p. p) l.fn.pages.items;
}
