-- For private clauses: the entries for edits that the code has applied or refused.
use Rattle.std.specs.Prelude.{ℕ, Bool, List, [], ◌∷◌, string_bytes, Result}
use Rattle.mg_value.specs.Value.{Items, no_items}
use Rattle.mg_revtree.specs.Revision.{Revision}
use Rattle.mg_doc.specs.declared.error.EditRefusal.{EditRefusal}
use Rattle.mg_shard.specs.Edits.{outcome_view}
use Rattle.mg_engine.specs.Bulk.{entry_before, entry_of}
use Rattle.mg_engine.specs.declared.bulk.apply.EditOutcome.{EditOutcome}

-- the id of the edit
abbrev pub id_view : EditOutcome → List ℕ
id_view o = string_bytes o.id

-- the outcome of the edit
abbrev pub reply_in : EditOutcome → Result Revision EditRefusal
reply_in o = outcome_view o.reply

-- the entries of the reply, by the outcomes of the edits
abbrev pub entries_view : Bool → List EditOutcome → Items
entries_view new_edits [] = no_items
entries_view new_edits (o ∷ os) = entry_before (entry_of new_edits (id_view o) (reply_in o)) (entries_view new_edits os)
