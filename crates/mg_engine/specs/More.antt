-- A document with more than its body, after the parameters `rev`, `latest`, `revs`, `revs_info`, `conflicts` and `deleted_conflicts` of CouchDB's
-- `GET` of a document.
use Rattle.std.specs.Prelude.{ℕ, ◌==◌, Bool, List, [], ◌∷◌, Option, codes, drop, find, map, if◌then◌else◌}
use Rattle.std.specs.List.{filter, list_any}
use Rattle.mg_value.specs.Value.{Value, text, list, object, member, no_members, with_member}
use Rattle.mg_value.specs.View.{items_of}
use Rattle.mg_revtree.specs.Ancestry.{ancestry}
use Rattle.mg_revtree.specs.History.{Leaf, Paths, leaf_of, leaves_of}
use Rattle.mg_revtree.specs.Revision.{Revision, revision_text, run_from, same_revision}
use Rattle.mg_doc.specs.Conflicts.{leaf_text}
use Rattle.mg_doc.specs.Leaf.{with_revisions_of}
use Rattle.mg_engine.specs.Commands.{with_conflicts_if}
use Rattle.mg_engine.specs.declared.question.More.{More}

-- ---- which leaf

-- a revision and its known ancestors, newest first: their ids, each at a position below the one before it
abbrev pub path_of : Paths → Revision → List Revision
path_of h r = run_from r.0 (map (λ q. q.1) (ancestry h r))

-- the best leaf on whose path a revision is
abbrev pub latest_of : Paths → Revision → Option Leaf
latest_of h r = find (λ l. list_any (same_revision r) (path_of h l.rev)) (leaves_of h)

-- the leaf of a revision; or, if the latest one is asked for, the best leaf on whose path the revision is
abbrev pub leaf_asked : Bool → Paths → Revision → Option Leaf
leaf_asked latest h r = if latest then latest_of h r else leaf_of h r

-- ---- what is shown beside it

-- the document with `_revisions`, if it is asked for: the path of this revision
abbrev pub with_revisions_if : Bool → Paths → Revision → Value → Value
with_revisions_if asked h r v = if asked then with_revisions_of h r v else v

-- `{"rev":..,"status":..}`: a revision, of which there is a body if its position is that of the newest
abbrev pub info_value : ℕ → Revision → Value
info_value newest r = object (member (codes "rev") (text (revision_text r)) (
    member (codes "status") (text (if r.0 == newest then codes "available" else codes "missing")) no_members))

-- the document with `_revs_info`, if it is asked for: the path of this revision, and of which revisions there is a body
abbrev pub with_info_if : Bool → Paths → Revision → Value → Value
with_info_if asked h r v = if asked then with_member (codes "_revs_info") (list (items_of (map (info_value r.0) (path_of h r)))) v else v

-- the leaves that are deleted, except the winner; best first
abbrev pub deleted_losers_of : Paths → List Leaf
deleted_losers_of h = filter (λ l. l.deleted) (drop 1 (leaves_of h))

-- the document with these values at a name; without values, the document as it is
abbrev pub with_values : List ℕ → List Value → Value → Value
with_values name [] v = v
with_values name (w ∷ ws) v = with_member name (list (items_of (w ∷ ws))) v

-- the document with `_deleted_conflicts`, if they are asked for: the revisions of those leaves
abbrev pub with_deleted_conflicts_if : Bool → Paths → Value → Value
with_deleted_conflicts_if asked h v = if asked then with_values (codes "_deleted_conflicts") (map leaf_text (deleted_losers_of h)) v else v

-- the document with all that is asked for; the revision is the one that is shown
abbrev pub with_more : More → Paths → Revision → Value → Value
with_more more h r v =
    with_info_if more.revisions_info h r
    (with_revisions_if more.revisions h r (with_deleted_conflicts_if more.deleted_conflicts h (with_conflicts_if more.conflicts h v)))
