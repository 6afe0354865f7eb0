-- For private clauses: trees of a leaf and its parent, which has no known parent.
use Rattle.std.specs.Prelude.{ℕ, ◌-◌, List, [], ◌∷◌, Some, None}
use Rattle.mg_revtree.specs.Revision.{Revision}
use Rattle.mg_revtree.specs.History.{Leaf, Link}
use Rattle.mg_revtree.specs.Tree.{Tree}

-- the links of a revision and its parent, in the order of revisions; the parent is given by its id, and is at the position below
abbrev pub pair_links : Revision → List ℕ → List Link
pair_links r parent = record { rev = (r.0 - 1, parent); parent = None } ∷ record { rev = r; parent = Some (r.0 - 1, parent) } ∷ []

-- the tree of a leaf and its parent, which is given by its id
abbrev pub pair_tree : Leaf → List ℕ → Tree
pair_tree leaf parent = record { links = pair_links leaf.rev parent; leaves = leaf ∷ [] }
