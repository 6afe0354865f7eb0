-- How the known revisions are kept in two lists: an older one, which the copies of a tree share, and a newer one.
use Rattle.std.specs.Prelude.{◌≡◌, ℕ, ◌-◌, List, [], ◌∷◌, Option, option_map}
use Rattle.std.specs.Ordering.{match_ordering}
use Rattle.std.specs.declared.cmp.Ordering.TheVariants.{Less}
use Rattle.std.specs.Option.{option_or}
use Rattle.mg_revtree.specs.Revision.{Revision, revision_order}
use Rattle.mg_revtree.specs.History.{Link}

-- sorted links with one more: if one of them has the new link's revision, it gets the new link's parent, unless it already has a parent;
-- else the new link is inserted in order
abbrev pub with_link : Link → List Link → List Link
with_link l [] = l ∷ []
with_link l (m ∷ ms) = match_ordering (revision_order l.rev m.rev) (l ∷ m ∷ ms) (record m { parent = option_or m.parent l.parent } ∷ ms) (m ∷ with_link l ms)

-- sorted older links with newer ones joined
abbrev pub with_links : List Link → List Link → List Link
with_links older [] = older
with_links older (l ∷ newer) = with_links (with_link l older) newer

-- the revisions of the links are all less than r
abbrev pub AreBelow : Revision → List Link → Type 0
AreBelow r [] = Unit {0}
AreBelow r (l ∷ ls) = (revision_order l.rev r ≡ Less) × AreBelow r ls

-- the parent of a revision at position n, given by the parent's id: the parent is at the position below
abbrev pub parent_below : ℕ → Option (List ℕ) → Option Revision
parent_below n id = option_map (λ s. (n - 1, s)) id
