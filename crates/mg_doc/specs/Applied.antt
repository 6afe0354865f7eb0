-- What applying an edit to a tree gives, for each history that the tree stands for.
use Rattle.std.specs.Prelude.{◌≡◌, Bool, false, true, Option, Some, None, Result, Ok, Err}
use Rattle.mg_revtree.specs.Revision.{Revision}
use Rattle.mg_revtree.specs.History.{Paths, is_known_whole}
use Rattle.mg_revtree.specs.Tree.{Tree, StandsFor}
use Rattle.mg_doc.specs.Document.{Edit}
use Rattle.mg_doc.specs.Edit.{base_of, edited, first_refusal, outcome_of}
use Rattle.mg_doc.specs.declared.change.Change.{Change}
use Rattle.mg_doc.specs.declared.change.Change.TheVariants.{New, Replica}
use Rattle.mg_doc.specs.declared.edit.apply.Look.{Look}
use Rattle.mg_doc.specs.declared.edit.apply.Look.TheVariants.{Known, Ready}
use Rattle.mg_doc.specs.declared.error.EditError.{EditError}
use Rattle.mg_doc.specs.declared.error.EditError.TheVariants.{Conflict as conflict, BadHistory as bad_history, NoMemory as no_memory}
use Rattle.mg_doc.specs.declared.error.EditRefusal.{EditRefusal}
use Rattle.mg_doc.specs.declared.error.EditRefusal.TheVariants.{Conflict, BadHistory}

-- the refusal that an error reports; `NoMemory` reports no refusal
abbrev pub refusal_in : EditError → Option EditRefusal
refusal_in conflict = Some Conflict
refusal_in bad_history = Some BadHistory
refusal_in no_memory = None

-- the error that reports a refusal
abbrev pub error_of : EditRefusal → EditError
error_of Conflict = conflict
error_of BadHistory = bad_history

-- the error of an edit is right: it is the edit's refusal; or memory ran out, and there is no refusal before the edit's revision is made
abbrev pub Refuses : Paths → Edit → Option EditRefusal → Type 0
Refuses h e (Some refused) = outcome_of h e ≡ Err refused
Refuses h e None = first_refusal h e.change ≡ None

-- the result is the outcome of the edit, and the tree then stands for the edited history; or the error is right
abbrev pub Applied : Paths → Edit → Result Revision EditError → Tree → Type 0
Applied h e (Ok r) t = (outcome_of h e ≡ Ok r) × StandsFor t (edited h e)
Applied h e (Err x) t = Refuses h e (refusal_in x)

-- whether a change is a replica's path that is known whole, which changes nothing
abbrev pub changes_nothing : Paths → Change → Bool
changes_nothing h (New named) = false
changes_nothing h (Replica run) = is_known_whole h run

-- an edit is ready: the history does not refuse it before its revision is made, and does not know its path whole
abbrev pub IsReady : Paths → Edit → Type 0
IsReady h e = (first_refusal h e.change ≡ None) × (changes_nothing h e.change ≡ false)

-- a new edit names the revision that it extends, or makes the first revision of its document: so the id of the revision that it makes
-- follows from the edit alone
abbrev pub NamesItsBase : Paths → Change → Type 0
NamesItsBase h (New named) = base_of h named ≡ named
NamesItsBase h (Replica run) = ⊥

-- the look foresees the edit: it finds a path that is known whole, its newest revision is the outcome, and the tree already stands for
-- the edited history; or it finds the edit ready; or its error is right
abbrev pub Foreseen : Paths → Edit → Result Look EditError → Tree → Type 0
Foreseen h e (Ok (Known r)) t = (changes_nothing h e.change ≡ true) × (outcome_of h e ≡ Ok r) × StandsFor t (edited h e)
Foreseen h e (Ok (Ready ready)) t = IsReady h ready
Foreseen h e (Err x) t = Refuses h e (refusal_in x)

-- a look that finds an edit ready gives it back
abbrev pub GivesBack : Edit → Look → Type 0
GivesBack e (Known r) = Unit {0}
GivesBack e (Ready ready) = ready ≡ e
