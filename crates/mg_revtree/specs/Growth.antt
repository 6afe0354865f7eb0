-- For private clauses: the trees that the cases of `Growth` keep.
use Rattle.std.specs.Prelude.{List, [], ◌∷◌, Bool, false, true, Option, None, Some}
use Rattle.mg_revtree.specs.Revision.{Revision, same_revision}
use Rattle.mg_revtree.specs.History.{Leaf, Link}
use Rattle.mg_revtree.specs.Tree.{Tree}
use Rattle.mg_revtree.specs.declared.growth.Growth.{Growth}
use Rattle.mg_revtree.specs.declared.growth.Growth.TheVariants.{Empty, First, Pair, Line, Grown}

-- the tree without revisions
abbrev pub empty_tree : Tree
empty_tree = record { links = []; leaves = [] }

-- the tree of one revision, whose parent is not known
abbrev pub first_tree : Leaf → Tree
first_tree leaf = record { links = record { rev = leaf.rev; parent = None } ∷ []; leaves = leaf ∷ [] }

-- the tree of these known revisions with one leaf
abbrev pub line_tree : List Link → Leaf → Tree
line_tree known leaf = record { links = known; leaves = leaf ∷ [] }

-- the tree that a `Growth` keeps
abbrev pub tree_in : Growth → Tree
tree_in Empty = empty_tree
tree_in (First leaf) = first_tree leaf
tree_in (Pair pair) = pair
tree_in (Line leaf known) = line_tree known.value leaf
tree_in (Grown grown) = grown.value

-- whether the tree has no revision
abbrev pub is_empty : Growth → Bool
is_empty Empty = true
is_empty (First leaf) = false
is_empty (Pair pair) = false
is_empty (Line leaf known) = false
is_empty (Grown grown) = false

-- whether a run is this revision alone
abbrev pub is_run_of : Revision → List Revision → Bool
is_run_of q [] = false
is_run_of q (r ∷ []) = same_revision r q
is_run_of q (r ∷ s ∷ rs) = false

-- the tree after a line has accepted a run: the tree that replaces the line, if there is one; else the tree of the line
abbrev pub after_line : Option Tree → List Link → Leaf → Tree
after_line None known leaf = line_tree known leaf
after_line (Some grown) known leaf = grown
