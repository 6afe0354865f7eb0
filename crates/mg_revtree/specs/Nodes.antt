-- How one list of known revisions is kept: each id once, in one text of the list's ids, and each link as a node, whose parts say where its
-- ids are in that text.
use Rattle.std.specs.Prelude.{◌≡◌, ℕ, ◌+◌, ◌-◌, ◌≤◌, List, [], ◌∷◌, ◌++◌, Option, None, Some, map, option_map, take, drop}
use Rattle.mg_revtree.specs.History.{Link}
use Rattle.mg_revtree.specs.declared.links.node.IdPart.{IdPart}
use Rattle.mg_revtree.specs.declared.links.node.Node.{Node}

-- the id that a part of the text holds
abbrev pub text_of_part : List ℕ → IdPart → List ℕ
text_of_part texts p = take p.len (drop p.from texts)

-- the link that a node stands for, with its ids in the text `texts`: its parent, if it has one, is at the position below
abbrev pub link_in : List ℕ → Node → Link
link_in texts n = record { rev = (n.pos, text_of_part texts n.id); parent = option_map (λ p. (n.pos - 1, text_of_part texts p)) n.parent }

-- the links that nodes stand for
abbrev pub links_in : List ℕ → List Node → List Link
links_in texts ns = map (link_in texts) ns

-- the part ends within n bytes
abbrev pub LiesWithin : ℕ → IdPart → Type 0
LiesWithin n p = p.from + p.len ≤ n

-- the part, if there is one, ends within n bytes
abbrev pub ParentWithin : ℕ → Option IdPart → Type 0
ParentWithin n None = Unit {0}
ParentWithin n (Some p) = LiesWithin n p

-- the parts of the node end within n bytes
abbrev pub NodeWithin : ℕ → Node → Type 0
NodeWithin n x = LiesWithin n x.id × ParentWithin n x.parent

-- the parts of all these nodes end within n bytes
abbrev pub NodesWithin : ℕ → List Node → Type 0
NodesWithin n [] = Unit {0}
NodesWithin n (x ∷ xs) = NodeWithin n x × NodesWithin n xs

-- all these parts end within n bytes
abbrev pub PartsWithin : ℕ → List IdPart → Type 0
PartsWithin n [] = Unit {0}
PartsWithin n (p ∷ ps) = LiesWithin n p × PartsWithin n ps

-- ys is the text xs with more after it
pub record IsExtendedBy (xs ys : List ℕ) : Type 0 where
  pub more : List ℕ
  pub is : ys ≡ xs ++ more
