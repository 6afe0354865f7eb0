-- A document as one of its leaves has it, after `rev` and `revs` of CouchDB's `GET` of a document.
use Rattle.std.specs.Prelude.{ℕ, pos, true, List, codes, map, if◌then◌else◌}
use Rattle.mg_value.specs.Value.{Value, flag, whole, text, list, object, member, no_members, with_member}
use Rattle.mg_value.specs.View.{items_of}
use Rattle.mg_revtree.specs.Ancestry.{ancestry}
use Rattle.mg_revtree.specs.History.{Leaf, Paths}
use Rattle.mg_revtree.specs.Revision.{Revision}
use Rattle.mg_doc.specs.Served.{served_form}

-- a leaf's body with the document's id as `_id` and the leaf's revision as `_rev`; with `_deleted` too if the leaf deletes the document
abbrev pub leaf_form : List ℕ → Leaf → Value
leaf_form id l = if l.deleted then with_member (codes "_deleted") (flag true) (served_form id l) else served_form id l

-- the ids of revisions, as texts
abbrev pub id_texts : List (List ℕ) → List Value
id_texts ids = map text ids

-- `{"ids":[..],"start":..}`: these ids, and the position of the first
abbrev pub revisions_value : ℕ → List (List ℕ) → Value
revisions_value start ids = object (member (codes "ids") (list (items_of (id_texts ids))) (member (codes "start") (whole (pos start)) no_members))

-- a document with `_revisions`: the ids of this revision and of its known ancestors, newest first
abbrev pub with_revisions_of : Paths → Revision → Value → Value
with_revisions_of h r v = with_member (codes "_revisions") (revisions_value r.0 (map (λ q. q.1) (ancestry h r))) v
