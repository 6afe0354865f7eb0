-- For private clauses: whether the members of a document are well formed, before they are read.
use Rattle.std.specs.Prelude.{List, ℕ, Bool, true, false, not, ◌&&◌, ◌||◌, Option, Some}
use Rattle.mg_value.specs.Value.{Value, Items, no_items, item, text}
use Rattle.mg_revtree.specs.Revision.{is_revision_id}
use Rattle.mg_doc.specs.Document.{is_reserved, is_special}

-- whether a document may have a member of this name
abbrev pub is_known_name : List ℕ → Bool
is_known_name k = not (is_reserved k) || is_special k

-- whether a value is the id of a revision
abbrev pub is_rev_id_value : Value → Bool
is_rev_id_value (text s) = is_revision_id s
is_rev_id_value v = false

-- whether each item is the id of a revision
abbrev pub are_ids : Items → Bool
are_ids no_items = true
are_ids (item v vs) = is_rev_id_value v && are_ids vs

-- whether `_rev` and `_revisions` give a change, by whether each is there; `None` stands for a malformed one, which gives no change;
-- a replica needs one of them, a new edit neither
abbrev pub is_enough : Bool → Option Bool → Option Bool → Bool
is_enough new_edit (Some rev) (Some path) = new_edit || (rev || path)
is_enough new_edit rev path = false
