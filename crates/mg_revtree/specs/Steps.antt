-- What changes in a tree when one link or one leaf is added.
use Rattle.std.specs.Prelude.{◌≡◌, ℕ, zero, suc, List, [], ◌∷◌, Bool, true, false, is_some, if◌then◌else◌, Option, Some, None}
use Rattle.std.specs.declared.cmp.Ordering.TheVariants.{Less, Equal}
use Rattle.mg_value.specs.Value.{null}
use Rattle.mg_revtree.specs.Revision.{Revision, revision_order, same_revision}
use Rattle.std.specs.Option.{option_or}
use Rattle.mg_revtree.specs.History.{Link, Leaf, agrees, gives, leaf_order}
use Rattle.mg_revtree.specs.Tree.{BeforeAll, IsBelow, leaf_in}

-- what a look-up of a revision finds after a link of this revision with the optional parent q is added: the parent that it found before, or
-- else q. `None` is an unknown revision, `Some None` a known one without a known parent
abbrev pub joined_found : Option (Option Revision) → Option Revision → Option (Option Revision)
joined_found None q = Some q
joined_found (Some p) q = Some (option_or p q)

-- what a look-up of revision r finds after link l is added, if it found o before
abbrev pub put : Link → Revision → Option (Option Revision) → Option (Option Revision)
put l r o = if same_revision r l.rev then joined_found o l.parent else o

-- the link at place i is the first whose revision is r
abbrev pub IsLinkAt : Revision → List Link → ℕ → Type 0
IsLinkAt r [] i = ⊥
IsLinkAt r (l ∷ ls) zero = same_revision r l.rev ≡ true
IsLinkAt r (l ∷ ls) (suc i) = (same_revision r l.rev ≡ false) × IsLinkAt r ls i

-- r goes before place i: the links before it are less than r, and those from it on are greater
abbrev pub BelongsAt : Revision → List Link → ℕ → Type 0
BelongsAt r ls zero = IsBelow r ls
BelongsAt r [] (suc i) = ⊥
BelongsAt r (l ∷ ls) (suc i) = (revision_order l.rev r ≡ Less) × BelongsAt r ls i

-- whether a looked-up parent is the given one; true also if the revision is unknown, or if either parent is missing
abbrev pub agrees_found : Option (Option Revision) → Option Revision → Bool
agrees_found None q = true
agrees_found (Some p) q = agrees p q

-- whether a looked-up revision is known, with the given parent if one is given
abbrev pub known_found : Option (Option Revision) → Option Revision → Bool
known_found None q = false
known_found (Some p) q = gives p q

-- a leaf with this mark and revision; its body does not matter
abbrev pub marked_as : Bool → Revision → Leaf
marked_as d r = record { rev = r; deleted = d; body = null }

-- the leaf at place i ties with k
abbrev pub IsTied : Leaf → List Leaf → ℕ → Type 0
IsTied k [] i = ⊥
IsTied k (l ∷ ls) zero = leaf_order k l ≡ Equal
IsTied k (l ∷ ls) (suc i) = IsTied k ls i

-- k goes before place i: the leaves before it are better than k, and those from it on are worse
abbrev pub IsBetween : Leaf → List Leaf → ℕ → Type 0
IsBetween k ls zero = BeforeAll k ls
IsBetween k [] (suc i) = ⊥
IsBetween k (l ∷ ls) (suc i) = (leaf_order k l ≡ Less) × IsBetween k ls i

-- the leaf at place i has revision r
abbrev pub IsLeafAt : Revision → List Leaf → ℕ → Type 0
IsLeafAt r [] i = ⊥
IsLeafAt r (l ∷ ls) zero = same_revision r l.rev ≡ true
IsLeafAt r (l ∷ ls) (suc i) = IsLeafAt r ls i

-- whether a new revision may be made over this base, which has to be one of the leaves, or without a base, if there are no leaves
abbrev pub base_in : List Leaf → Option Revision → Bool
base_in [] None = true
base_in (l ∷ ls) None = false
base_in ls (Some q) = is_some (leaf_in q ls)

-- the ids of a new revision and of the leaf that it extends, if it extends one
abbrev pub ids_over : List ℕ → Option Revision → List (List ℕ)
ids_over id None = id ∷ []
ids_over id (Some q) = id ∷ q.1 ∷ []
