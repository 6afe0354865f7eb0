-- What an edit does to a document's history, after CouchDB's `_bulk_docs` with `new_edits` true and false.
use Rattle.std.specs.Prelude.{ℕ, List, [], ◌∷◌, Bool, false, not, ◌&&◌, Option, Some, None, is_none, option_map, Result, Ok, Err, if◌then◌else◌}
use Rattle.std.specs.Option.{option_to_list}
use Rattle.std.specs.Result.{result_err}
use Rattle.mg_value.specs.Value.{Value}
use Rattle.mg_revtree.specs.Revision.{Revision}
use Rattle.mg_revtree.specs.History.{Paths, Leaf, winner_of, fits}
use Rattle.mg_revtree.specs.Changes.{path_of, with_path, next_position, next_revision, refusal_of}
use Rattle.mg_revtree.specs.declared.error.TreeRefusal.{TreeRefusal}
use Rattle.mg_revtree.specs.declared.error.TreeRefusal.TheVariants.{NotLeaf, Full, Known}
use Rattle.mg_doc.specs.Document.{Edit}
use Rattle.mg_doc.specs.declared.change.Change.{Change}
use Rattle.mg_doc.specs.declared.change.Change.TheVariants.{New, Replica}
use Rattle.mg_doc.specs.Digest.{digest_of}
use Rattle.mg_doc.specs.declared.error.EditRefusal.{EditRefusal}
use Rattle.mg_doc.specs.declared.error.EditRefusal.TheVariants.{Conflict, BadHistory}

-- an accepted path: its newest revision, and the older ones, newest first
abbrev pub Accepted : Type 0
Accepted = Revision × List Revision

-- ---- a new edit

-- whether there is a leaf, and the leaf is not deleted
abbrev pub is_alive : Option Leaf → Bool
is_alive None = false
is_alive (Some l) = not l.deleted

-- whether a new edit names no revision, though the winner is not deleted
abbrev pub must_name : Paths → Option Revision → Bool
must_name h named = is_none named && is_alive (winner_of h)

-- the base of a new edit: the revision that it names, or else the winner's, if there is a winner
abbrev pub base_of : Paths → Option Revision → Option Revision
base_of h None = option_map (λ l. l.rev) (winner_of h)
base_of h (Some r) = Some r

-- the refusal of an edit for the refusal of its revision
abbrev pub refused_by : TreeRefusal → EditRefusal
refused_by NotLeaf = Conflict
refused_by Full = BadHistory
refused_by Known = Conflict

-- why a new edit is refused, if it is: it names no revision, though the winner is not deleted; or a revision of this id
-- cannot be made over its base
abbrev pub refusal_over : Paths → Option Revision → List ℕ → Option EditRefusal
refusal_over h named id = if must_name h named then Some Conflict else option_map refused_by (refusal_of h (base_of h named) id)

-- the path of a new revision: the revision of this id over the base, and after it the base, if there is one
abbrev pub path_over : Option Revision → List ℕ → Accepted
path_over base id = (next_revision base id, option_to_list base)

-- the accepted path, unless there is a refusal
abbrev pub unless : Option EditRefusal → Accepted → Result Accepted EditRefusal
unless None accepted = Ok accepted
unless (Some refused) accepted = Err refused

-- the path that a new edit adds, or why it is refused; the new revision's id is the digest of mark, base and body
abbrev pub extended : Paths → Bool → Value → Option Revision → Result Accepted EditRefusal
extended h deleted body named =
    let base = base_of h named in
    let id = digest_of deleted base body in
    unless (refusal_over h named id) (path_over base id)

-- ---- an edit that a replica made

-- the accepted path of a replica; `BadHistory` if it does not fit, or is empty
abbrev pub replicated : Paths → List Revision → Result Accepted EditRefusal
replicated h [] = Err BadHistory
replicated h (r ∷ rs) = if fits h (r ∷ rs) then Ok (r, rs) else Err BadHistory

-- ---- either

-- the accepted path, or why the edit is refused
abbrev pub accepted_of : Paths → Bool → Value → Change → Result Accepted EditRefusal
accepted_of h deleted body (New named) = extended h deleted body named
accepted_of h deleted body (Replica run) = replicated h run

-- the path that an edit adds, or why the edit is refused
abbrev pub accepted_by : Paths → Edit → Result Accepted EditRefusal
accepted_by h e = accepted_of h e.deleted e.body e.change

-- the history with the accepted path; after a refusal, the history as it was
abbrev pub history_after : Paths → Edit → Result Accepted EditRefusal → Paths
history_after h e (Ok a) = with_path h (path_of (a.0 ∷ a.1) e.deleted e.body)
history_after h e (Err refused) = h

-- the history after the edit; a refusal leaves it as it was
abbrev pub edited : Paths → Edit → Paths
edited h e = history_after h e (accepted_by h e)

-- the newest revision of the accepted path, or the refusal
abbrev pub newest_accepted : Result Accepted EditRefusal → Result Revision EditRefusal
newest_accepted (Ok a) = Ok a.0
newest_accepted (Err refused) = Err refused

-- the revision that is made, or the newest one of the replica's path; or why the edit is refused
abbrev pub outcome_of : Paths → Edit → Result Revision EditRefusal
outcome_of h e = newest_accepted (accepted_by h e)

-- ---- what is refused before a revision is made

-- why a change is refused, if it is, before its revision is made: any reason except that the made revision is already known, or that a
-- replica's path is empty
abbrev pub first_refusal : Paths → Change → Option EditRefusal
first_refusal h (New named) = if must_name h named then Some Conflict else option_map refused_by (result_err (next_position h (base_of h named)))
first_refusal h (Replica run) = if fits h run then None else Some BadHistory
