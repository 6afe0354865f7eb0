-- What pages and levels stand for, from what is in them.
use Rattle.std.specs.Prelude.{◌≡◌, ◌<◌, ℕ, List, get_or, length}
use Rattle.mg_pages.specs.Order.{Ascends}
use Rattle.mg_pages.specs.Subtree.{IsLast, Subtree, elements_of, levels_of}
use Rattle.mg_pages.specs.declared.tree.Node.{Node}
use Rattle.mg_pages.specs.declared.tree.Node.TheVariants.{Page, Level}
use Rattle.std.specs.declared.cmp.Ordering.{Ordering}

-- the elements of a page or a level
abbrev pub node_elements : {T : Type 0} → Node T → List T
node_elements (Page xs) = xs.items
node_elements (Level cs) = elements_of cs.items

-- how many levels there are above the pages
abbrev pub node_levels : {T : Type 0} → Node T → ℕ
node_levels (Page xs) = 0
node_levels (Level cs) = levels_of cs.items

-- the last element, and the number of elements
pub record IsTree {X : Type 0} (last : X) (count : ℕ) (xs : List X) : Type 0 where
  pub ends : IsLast last xs
  pub counted : count ≡ length xs

-- the elements of a collection ascend, and the count is their number
pub record IsSound {T : Type 0} (order : T → T → Ordering) (count : ℕ) (xs : List T) : Type 0 where
  pub sorted : Ascends order xs
  pub counted : count ≡ length xs

-- the node is what the i-th child refers to
pub record IsNodeAt {T : Type 0} (n : Node T) (ts : List (Subtree T)) (i : ℕ) : Type 0 where
  pub tree : Subtree T
  pub at : tree ≡ get_or ts i tree
  pub elements : node_elements n ≡ tree.elements
  pub levels : node_levels n ≡ tree.levels
  pub some : 0 < length tree.elements
