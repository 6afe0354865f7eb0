use Rattle.std.proofs.Common.{rules}
use Rattle.std.proofs.lemmas.Fn.{always_returns_same}
use Rattle.std.specs.List.Sorted.{IsBinarySearchResult}
use Rattle.mg_revtree.specs.Revision.{revision_order}
use Rattle.mg_revtree.specs.Nodes.{link_in}
use Rattle.mg_revtree.specs.declared.links.node.Node.{Node}
use Rattle.mg_revtree.proofs.Find.{searched}
use Rattle.mg_revtree.proofs.links.lookup.place.Goals as goal

pub returns : goal.returns
returns c =
    let t = c.args.texts.now in
    let by : IsBinarySearchResult (λ (x : Node). revision_order (link_in t x).rev (c.args.pos, c.args.id.now)) c.args.nodes.now c.binary_search_by.result = c.binary_search_by.ensures.position (λ (x : Node). revision_order (link_in t x).rev (c.args.pos, c.args.id.now)) (always_returns_same _ _ _ (λ a r g called. search rules)) in
    let s = searched (link_in t) (c.args.pos, c.args.id.now) c.args.nodes.now c.binary_search_by.result c.binary_search_by.ensures.bound by in
    record { found = s.0; absent = s.1 }
