-- What the edits of a bulk do, in order, to the histories of documents, and the outcome of each edit, as in CouchDB's `_bulk_docs`.
use Rattle.std.specs.Prelude.{ℕ, List, [], ◌∷◌, Option, unwrap_or, Result, Ok, Err}
use Rattle.std.specs.FinMap.{insert}
use Rattle.mg_revtree.specs.Revision.{Revision}
use Rattle.mg_doc.specs.Document.{Edit}
use Rattle.mg_doc.specs.Edit.{edited, first_refusal, outcome_of}
use Rattle.mg_doc.specs.declared.error.EditRefusal.{EditRefusal}
use Rattle.mg_doc.specs.declared.error.EditRefusal.TheVariants as refused
use Rattle.mg_shard.specs.Histories.{Histories, history_at}
use Rattle.mg_shard.specs.declared.reply.EditReply.{EditReply}
use Rattle.mg_shard.specs.declared.reply.EditReply.TheVariants.{Done, Conflict, BadHistory}

-- the id of an edit; empty if it has none
abbrev pub id_in : Edit → List ℕ
id_in e = unwrap_or e.id []

-- the histories after an edit with this outcome: a refused edit changes none
abbrev pub history_put : Histories → Edit → Result Revision EditRefusal → Histories
history_put hs e (Ok r) = insert hs (id_in e) (edited (history_at hs (id_in e)) e)
history_put hs e (Err x) = hs

-- the outcome of an edit: its revision, or its refusal
abbrev pub outcome_in : Histories → Edit → Result Revision EditRefusal
outcome_in hs e = outcome_of (history_at hs (id_in e)) e

-- why an edit is refused, if it is, before its revision is made
abbrev pub first_refusal_in : Histories → Edit → Option EditRefusal
first_refusal_in hs e = first_refusal (history_at hs (id_in e)) e.change

-- the histories after an edit
abbrev pub after_edit : Histories → Edit → Histories
after_edit hs e = history_put hs e (outcome_in hs e)

-- the histories after all these edits
abbrev pub after_edits : Histories → List Edit → Histories
after_edits hs [] = hs
after_edits hs (e ∷ es) = after_edits (after_edit hs e) es

-- the outcome of each edit, in order
abbrev pub outcomes : Histories → List Edit → List (Result Revision EditRefusal)
outcomes hs [] = []
outcomes hs (e ∷ es) = outcome_in hs e ∷ outcomes (after_edit hs e) es

-- the outcome that a reply reports
abbrev pub outcome_view : EditReply → Result Revision EditRefusal
outcome_view (Done r) = Ok r
outcome_view Conflict = Err refused.Conflict
outcome_view BadHistory = Err refused.BadHistory
