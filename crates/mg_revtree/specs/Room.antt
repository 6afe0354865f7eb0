-- How nodes are kept while a run is joined to them: some before a room of unused places, the others after it.
use Rattle.std.specs.Prelude.{◌≡◌, ℕ, ◌≤◌, List, [], ◌∷◌, ◌++◌, take, drop}
use Rattle.mg_revtree.specs.Revision.{Revision}
use Rattle.mg_revtree.specs.History.{Link}
use Rattle.mg_revtree.specs.Tree.{AreSorted, find}
use Rattle.mg_revtree.specs.Steps.{put}
use Rattle.mg_revtree.specs.Nodes.{link_in, links_in}
use Rattle.mg_revtree.specs.declared.links.node.Node.{Node}

-- the nodes before a room and those after it; the room has the places from `till` on, up to but not including `from`
abbrev pub used : List Node → ℕ → ℕ → List Node
used ns till from = take till ns ++ drop from ns

-- the revisions of the links are at position n or above
abbrev pub AreFrom : ℕ → List Link → Type 0
AreFrom n [] = Unit {0}
AreFrom n (l ∷ ls) = (n ≤ l.rev.0) × AreFrom n ls

-- the nodes `new` are the nodes `old` with node x joined: they are sorted, and hold the old links and that of x (an old link with the
-- revision of x only gets x's parent, unless it has one); the nodes `after`, which follow the room, are at the position of x or above
pub record Joins (texts : List ℕ) (x : Node) (old new after : List Node) : Type 0 where
  pub kept : (r : Revision) → find r (links_in texts new) ≡ put (link_in texts x) r (find r (links_in texts old))
  pub sorted : AreSorted (links_in texts new)
  pub above : AreFrom x.pos (links_in texts after)
