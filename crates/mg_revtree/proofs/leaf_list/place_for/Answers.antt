use Rattle.std.proofs.Common.{rules}
use Rattle.std.proofs.lemmas.Fn.{always_returns_same}
use Rattle.std.specs.List.Sorted.{IsBinarySearchResult}
use Rattle.mg_revtree.specs.History.{Leaf, leaf_order}
use Rattle.mg_revtree.proofs.Places.{sought}
use Rattle.mg_revtree.proofs.leaf_list.place_for.Goals as goal

pub returns : goal.returns
returns c =
    let k = c.args.leaf.now in
    let by : IsBinarySearchResult (λ (x : Leaf). leaf_order k x) c.args.leaves.now c.binary_search_by.result = c.binary_search_by.ensures.position (λ (x : Leaf). leaf_order k x) (always_returns_same _ _ _ (λ a r g called. search rules)) in
    let s = sought k c.args.leaves.now c.binary_search_by.result c.binary_search_by.ensures.bound by in
    record { found = s.0; absent = s.1 }
