-- The document that is served, after CouchDB's `GET` of a document: the winner's body with `_id` and `_rev`.
use Rattle.std.specs.Prelude.{ℕ, List, codes, Option, Some, None, option_and_then, if◌then◌else◌}
use Rattle.mg_value.specs.Value.{Value, text, with_member}
use Rattle.mg_revtree.specs.Revision.{revision_text}
use Rattle.mg_revtree.specs.History.{Paths, Leaf, winner_of}

-- a leaf's body with the document's id as `_id` and the leaf's revision as `_rev`
abbrev pub served_form : List ℕ → Leaf → Value
served_form id l = with_member (codes "_id") (text id) (with_member (codes "_rev") (text (revision_text l.rev)) l.body)

-- what is served for a winner; `None` if the winner is deleted
abbrev pub shown_leaf : List ℕ → Leaf → Option Value
shown_leaf id l = if l.deleted then None else Some (served_form id l)

-- the document that is served for an id; `None` if the winner is deleted, or if there is no winner
abbrev pub served_of : List ℕ → Paths → Option Value
served_of id h = option_and_then (shown_leaf id) (winner_of h)
