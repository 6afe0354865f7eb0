-- What holds of all histories, after the replication and conflict model of CouchDB.
use Rattle.std.specs.Prelude.{◌≡◌, ℕ, ◌+◌, Bool, Option, None, List, [], ◌∷◌, ◌++◌, ◌⊎◌, true, false, Some}
use Rattle.mg_value.specs.Value.{Value}
use Rattle.mg_revtree.specs.Revision.{Revision, run_of}
use Rattle.mg_revtree.specs.History.{Path, Paths, Link, Leaf, newest_of, is_this, all_links, is_known, parent_of, leaf_at, leaf_order, leaves_of, winner_of, fits, is_known_whole, IsLeaf}
use Rattle.mg_revtree.specs.Changes.{with_path, extension}
use Rattle.mg_revtree.specs.Tree.{AreLeaves, AreLosers}
use Rattle.mg_revtree.specs.Losers.{losers_of}
use Rattle.std.specs.declared.cmp.Ordering.TheVariants.{Less}

-- ---- replicas agree

-- the path is in the history
abbrev pub Among : Path → Paths → Type 0
Among p [] = ⊥
Among p (q ∷ h) = (p ≡ q) ⊎ Among p h

-- each path of one is a path of the other, in any order and any number of times
pub record SamePaths (h g : Paths) : Type 0 where
  pub there : (p : Path) → Among p h → Among p g
  pub back : (p : Path) → Among p g → Among p h

-- paths with the same newest revision have the same mark and body
abbrev pub SameMarks : Paths → Type 0
SameMarks h = (r : Revision) (p q : Path) → Among p h → Among q h → is_this r (newest_of p.revs) ≡ true → is_this r (newest_of q.revs) ≡ true → (p.deleted ≡ q.deleted) × (p.body ≡ q.body)

-- the link is one of these
abbrev pub AmongLinks : Link → List Link → Type 0
AmongLinks l [] = ⊥
AmongLinks l (m ∷ ls) = (l ≡ m) ⊎ AmongLinks l ls

-- no revision is given two parents
abbrev pub OneParent : List Link → Type 0
OneParent ls = (l m : Link) (a b : Revision) → AmongLinks l ls → AmongLinks m ls → l.rev ≡ m.rev → l.parent ≡ Some a → m.parent ≡ Some b → a ≡ b

-- the same revisions are known, with the same parents, and the leaves and the winner are the same
pub record Agree (h g : Paths) : Type 0 where
  pub known : (r : Revision) → is_known r (all_links h) ≡ is_known r (all_links g)
  pub parents : (r : Revision) → parent_of r (all_links h) ≡ parent_of r (all_links g)
  pub leaves : (r : Revision) → leaf_at r h ≡ leaf_at r g
  pub winners : winner_of h ≡ winner_of g

-- replicas that have the same paths agree, if paths with the same newest revision have the same mark and body, and no revision is
-- given two parents
abbrev pub ReplicasAgree : Type 0
ReplicasAgree = (h g : Paths) → SamePaths h g → SameMarks g → OneParent (all_links g) → Agree h g

-- ---- acceptance

-- each of the paths fits the history h with the paths before it
abbrev pub AllFit : Paths → List Path → Type 0
AllFit h [] = Unit {0}
AllFit h (p ∷ ps) = (fits h p.revs ≡ true) × AllFit (with_path h p) ps

-- if no revision is given two parents, the paths are accepted in every order
abbrev pub AcceptedInEveryOrder : Type 0
AcceptedInEveryOrder = (h ps : List Path) → OneParent (all_links (h ++ ps)) → AllFit h ps

-- ---- what a path changes

-- one more path that is known whole changes nothing
abbrev pub KnownChangesNothing : Type 0
KnownChangesNothing = (h : Paths) (p : Path) → is_known_whole h p.revs ≡ true → Agree (with_path h p) h

-- each known revision of h is known in g, and each known parent of h is the parent in g
pub record Keeps (h g : Paths) : Type 0 where
  pub revisions : (r : Revision) → is_known r (all_links h) ≡ true → is_known r (all_links g) ≡ true
  pub parents : (r q : Revision) → parent_of r (all_links h) ≡ Some q → parent_of r (all_links g) ≡ Some q

-- known revisions stay known, and known parents stay their parents, whatever is accepted later
abbrev pub NothingIsLost : Type 0
NothingIsLost = (h : Paths) (ps : List Path) → Keeps h (h ++ ps)

-- ---- the winner

-- the winner is one of the leaves, and no leaf is better
abbrev pub WinnerIsBest : Type 0
WinnerIsBest = (h : Paths) (w : Leaf) → winner_of h ≡ Some w → IsLeaf h w × ((l : Leaf) → IsLeaf h l → leaf_order w l ≡ Less → ⊥)

-- no deleted leaf wins while another leaf is not deleted
abbrev pub DeletedDoNotWin : Type 0
DeletedDoNotWin = (h : Paths) (w l : Leaf) → winner_of h ≡ Some w → IsLeaf h l → l.deleted ≡ false → w.deleted ≡ false

-- ---- leaves and losers as lists

-- `leaves_of` and `losers_of` list the leaves and the losers, each once and best first, and no other lists do
pub record LeavesAreListed : Type 0 where
  pub leaves : (h : Paths) → AreLeaves h (leaves_of h)
  pub losers : (h : Paths) → AreLosers h (losers_of h)
  pub leaves_decided : (h : Paths) (ls : List Leaf) → AreLeaves h ls → ls ≡ leaves_of h
  pub losers_decided : (h : Paths) (ls : List Leaf) → AreLosers h ls → ls ≡ losers_of h

-- ---- the first revision

-- each revision of a path is one position above the one after it
abbrev pub Falls : List Revision → Type 0
Falls [] = Unit {0}
Falls (r ∷ []) = Unit {0}
Falls (r ∷ q ∷ rs) = (r.0 ≡ q.0 + 1) × Falls (q ∷ rs)

-- the positions fall in each run that a replica gives, and in the path of each new revision
pub record PathsFall : Type 0 where
  pub runs : (n : ℕ) (ids : List (List ℕ)) (rs : List Revision) → run_of n ids ≡ Some rs → Falls rs
  pub extensions : (base : Option Revision) (id : List ℕ) (d : Bool) (b : Value) → Falls (extension base id d b).revs

-- the positions fall in all paths of a history
abbrev pub AllFall : Paths → Type 0
AllFall [] = Unit {0}
AllFall (p ∷ h) = Falls p.revs × AllFall h

-- if the positions fall in all paths of a history, and the history has no winner, no revision is known
abbrev pub NoWinnerNothingKnown : Type 0
NoWinnerNothingKnown = (h : Paths) → AllFall h → winner_of h ≡ None → (r : Revision) → is_known r (all_links h) ≡ false
