-- What a revision tree keeps, and the histories that it stands for.
use Rattle.std.specs.Prelude.{◌≡◌, not, List, [], ◌∷◌, Bool, if◌then◌else◌, Option, Some, None, option_and_then, option_map, refl}
use Rattle.std.specs.Coded.{Coded, code_by, coded×, coded_ℕ, coded_list, coded_bool, coded_option}
use Rattle.std.specs.declared.cmp.Ordering.TheVariants.{Less}
use Rattle.mg_value.specs.Value.{Value}
use Rattle.mg_value.specs.Code.{value_code}
use Rattle.mg_revtree.specs.Revision.{Revision, revision_order, same_revision}
use Rattle.mg_revtree.specs.History.{Paths, Link, Leaf, all_links, is_known, parent_of, leaf_at, leaf_order, winner_of, is_this}

-- what a tree keeps: each known revision once with its parent, and the leaves
pub record Tree : Type 0 where
  pub links : List Link
  pub leaves : List Leaf

-- ---- the known revisions

-- looks up a revision among kept links: `None` if it is unknown, `Some None` if it has no known parent; else its parent
abbrev pub find : Revision → List Link → Option (Option Revision)
find r [] = None
find r (l ∷ ls) = if same_revision r l.rev then Some l.parent else find r ls

-- looks up a revision among the links of all paths: `None` if it is unknown, `Some None` if it has no known parent; else its parent
abbrev pub known_parent : Revision → List Link → Option (Option Revision)
known_parent r ls = if is_known r ls then Some (parent_of r ls) else None

-- the revision is less than all revisions of the links
abbrev pub IsBelow : Revision → List Link → Type 0
IsBelow r [] = Unit {0}
IsBelow r (l ∷ ls) = (revision_order r l.rev ≡ Less) × IsBelow r ls

-- the links are in the order of their revisions, each revision once
abbrev pub AreSorted : List Link → Type 0
AreSorted [] = Unit {0}
AreSorted (l ∷ ls) = IsBelow l.rev ls × AreSorted ls

-- the kept links are the known revisions of these links: sorted, each once, with the parent that the links give it
pub record AreKnownLinks (kept ls : List Link) : Type 0 where
  pub same : (r : Revision) → find r kept ≡ known_parent r ls
  pub sorted : AreSorted kept

-- ---- the leaves

-- the mark and body of a revision's leaf among these leaves; `None` if no leaf has the revision
abbrev pub leaf_in : Revision → List Leaf → Option (Bool × Value)
leaf_in r [] = None
leaf_in r (l ∷ ls) = if same_revision r l.rev then Some (l.deleted, l.body) else leaf_in r ls

-- the leaf is better than all of these
abbrev pub BeforeAll : Leaf → List Leaf → Type 0
BeforeAll l [] = Unit {0}
BeforeAll l (m ∷ ms) = (leaf_order m l ≡ Less) × BeforeAll l ms

-- the leaves are sorted, best first
abbrev pub AreRanked : List Leaf → Type 0
AreRanked [] = Unit {0}
AreRanked (l ∷ ls) = BeforeAll l ls × AreRanked ls

-- the leaves have different revisions
abbrev pub AreApart : List Leaf → Type 0
AreApart [] = Unit {0}
AreApart (l ∷ ls) = (leaf_in l.rev ls ≡ None) × AreApart ls

-- the list holds the leaves of the history, each once, best first
pub record AreLeaves (h : Paths) (ls : List Leaf) : Type 0 where
  pub same : (r : Revision) → leaf_in r ls ≡ leaf_at r h
  pub apart : AreApart ls
  pub ranked : AreRanked ls

-- the mark and body of a loser, which is a leaf that is neither deleted nor the winner; `None` for any other revision
abbrev pub loser_at : Revision → Paths → Option (Bool × Value)
loser_at r h = if is_this r (option_map (λ l. l.rev) (winner_of h)) then None else option_and_then (λ m. if not m.0 then Some m else None) (leaf_at r h)

-- the list holds the losers of the history, each once, best first
pub record AreLosers (h : Paths) (ls : List Leaf) : Type 0 where
  pub same : (r : Revision) → leaf_in r ls ≡ loser_at r h
  pub apart : AreApart ls
  pub ranked : AreRanked ls

-- ---- the tree

-- the tree stands for the history: its links are the history's known revisions with their parents, and its leaves are the history's
-- leaves, with their marks and bodies
pub record StandsFor (t : Tree) (h : Paths) : Type 0 where
  pub known : AreKnownLinks t.links (all_links h)
  pub leaves : AreLeaves h t.leaves

-- ---- how the logic stores a tree

-- how the logic stores a revision
abbrev pub revision_code : Coded Revision
revision_code = coded× coded_ℕ (coded_list coded_ℕ)

-- how the logic stores a link
abbrev pub link_code : Coded Link
link_code = code_by (Revision × Option Revision) (coded× revision_code (coded_option revision_code)) (λ l. (l.rev, l.parent)) (λ p. record { rev = p.0; parent = p.1 }) (λ _. refl)

-- how the logic stores a leaf
abbrev pub leaf_code : Coded Leaf
leaf_code = code_by (Revision × (Bool × Value)) (coded× revision_code (coded× coded_bool value_code)) (λ l. (l.rev, (l.deleted, l.body))) (λ p. record { rev = p.0; deleted = p.1.0; body = p.1.1 }) (λ _. refl)

-- how the logic stores a tree
abbrev pub tree_code : Coded Tree
tree_code = code_by (List Link × List Leaf) (coded× (coded_list link_code) (coded_list leaf_code)) (λ t. (t.links, t.leaves)) (λ p. record { links = p.0; leaves = p.1 }) (λ _. refl)
