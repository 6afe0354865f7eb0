-- Revision histories, after the replication and conflict model of CouchDB: the paths that a document accepted, in order.
use Rattle.std.specs.Prelude.{◌≡◌, List, [], ◌∷◌, Bool, true, false, not, ◌&&◌, if◌then◌else◌, Option, Some, None, option_and_then, option_map}
use Rattle.std.specs.List.{filter_map, flat_map, list_all, list_any}
use Rattle.std.specs.Option.{option_or}
use Rattle.std.specs.Ordering.{on, then_cmp, bool_cmp, match_ordering}
use Rattle.std.specs.declared.cmp.Ordering.{Ordering}
use Rattle.mg_value.specs.Value.{Value}
use Rattle.mg_revtree.specs.Revision.{Revision, revision_order, same_revision}

-- an accepted path: its revisions, newest first, with the deletion mark and the body of the newest
pub record Path : Type 0 where
  pub revs : List Revision
  pub deleted : Bool
  pub body : Value

-- the accepted paths, oldest first
abbrev pub Paths : Type 0
Paths = List Path

-- ---- known revisions and their parents

-- a revision with its parent: the revision after it in a path, if there is one
pub record Link : Type 0 where
  pub rev : Revision
  pub parent : Option Revision

-- the newest revision of a run, which is its first; `None` for an empty run
abbrev pub newest_of : List Revision → Option Revision
newest_of [] = None
newest_of (r ∷ rs) = Some r

-- the links of a run: each revision with the one after it
abbrev pub links : List Revision → List Link
links [] = []
links (r ∷ rs) = record { rev = r; parent = newest_of rs } ∷ links rs

-- the links of all paths
abbrev pub all_links : Paths → List Link
all_links = flat_map (λ p. links p.revs)

-- whether a revision is known: one of these links is that of the revision
abbrev pub is_known : Revision → List Link → Bool
is_known r = list_any (λ l. same_revision r l.rev)

-- the parent of a revision: the first one that these links give it; `None` if they give it no parent
abbrev pub parent_of : Revision → List Link → Option Revision
parent_of r [] = None
parent_of r (l ∷ ls) = if same_revision r l.rev then option_or l.parent (parent_of r ls) else parent_of r ls

-- whether an optional revision is this one
abbrev pub is_this : Revision → Option Revision → Bool
is_this r None = false
is_this r (Some q) = same_revision r q

-- whether a revision is the parent of another
abbrev pub has_child : Revision → List Link → Bool
has_child r = list_any (λ l. is_this r l.parent)

-- ---- leaves and the winner

-- a leaf with its mark and body
pub record Leaf : Type 0 where
  pub rev : Revision
  pub deleted : Bool
  pub body : Value

-- the mark and body of the first path whose newest revision is r, if there is such a path
abbrev pub marked : Revision → Paths → Option (Bool × Value)
marked r [] = None
marked r (p ∷ h) = if is_this r (newest_of p.revs) then Some (p.deleted, p.body) else marked r h

-- the mark and body of a leaf, which is a known revision that is the parent of no other; `None` if the revision is not a leaf
abbrev pub leaf_at : Revision → Paths → Option (Bool × Value)
leaf_at r h = if has_child r (all_links h) then None else marked r h

-- the leaf at a revision, if the revision is a leaf
abbrev pub leaf_of : Paths → Revision → Option Leaf
leaf_of h r = option_map (λ m. record { rev = r; deleted = m.0; body = m.1 }) (leaf_at r h)

-- the revision is a leaf of the history, with this mark and body
abbrev pub IsLeaf : Paths → Leaf → Type 0
IsLeaf h l = leaf_at l.rev h ≡ Some (l.deleted, l.body)

-- the better leaf is the greater: first the one that is not deleted, then the higher position, then the greater id
abbrev pub leaf_order : Leaf → Leaf → Ordering
leaf_order = then_cmp (on (λ l. not l.deleted) bool_cmp) (on (λ l. l.rev) revision_order)

-- the leaf at the newest revision of a path, if that revision is a leaf
abbrev pub tip_of : Paths → Path → Option Leaf
tip_of h p = option_and_then (leaf_of h) (newest_of p.revs)

-- leaves, best first, with one more; if it ties with one of them, it is not added: leaves of one history that tie are the same leaf
abbrev pub ranked_with : Leaf → List Leaf → List Leaf
ranked_with l [] = l ∷ []
ranked_with l (m ∷ ms) = match_ordering (leaf_order l m) (m ∷ ranked_with l ms) (m ∷ ms) (l ∷ m ∷ ms)

-- these leaves, best first, each once
abbrev pub ranked : List Leaf → List Leaf
ranked [] = []
ranked (l ∷ ls) = ranked_with l (ranked ls)

-- the leaves of a history, best first: those at the newest revisions of its paths
abbrev pub leaves_of : Paths → List Leaf
leaves_of h = ranked (filter_map (tip_of h) h)

-- the first of these leaves, if there is one
abbrev pub first_of : List Leaf → Option Leaf
first_of [] = None
first_of (l ∷ ls) = Some l

-- the winner: the first of the leaves, if there is one
abbrev pub winner_of : Paths → Option Leaf
winner_of h = first_of (leaves_of h)

-- ---- when a path is accepted

-- whether a known parent is the given one; true also if either is missing
abbrev pub agrees : Option Revision → Option Revision → Bool
agrees None q = true
agrees (Some p) None = true
agrees (Some p) (Some q) = same_revision p q

-- whether links give no known revision a parent other than the known one
abbrev pub fit : List Link → List Link → Bool
fit known ls = list_all (λ l. agrees (parent_of l.rev known) l.parent) ls

-- whether a path of these revisions fits: it gives no known revision a parent other than the known one
abbrev pub fits : Paths → List Revision → Bool
fits h rs = fit (all_links h) (links rs)

-- ---- when a path changes nothing

-- whether the given parent, if there is one, is the known one
abbrev pub gives : Option Revision → Option Revision → Bool
gives p None = true
gives None (Some q) = false
gives (Some p) (Some q) = same_revision p q

-- whether all links are known: each revision with its given parent
abbrev pub are_known_whole : List Link → List Link → Bool
are_known_whole known ls = list_all (λ l. is_known l.rev known && gives (parent_of l.rev known) l.parent) ls

-- whether a path of these revisions is known whole
abbrev pub is_known_whole : Paths → List Revision → Bool
is_known_whole h rs = are_known_whole (all_links h) (links rs)
