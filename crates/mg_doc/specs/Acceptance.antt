-- For private clauses: whether a tree accepted a path, or refused it, as the definition says.
use Rattle.std.specs.Prelude.{◌≡◌, List, ◌∷◌, Bool, Option, Some, None, Result, Ok, Err}
use Rattle.mg_value.specs.Value.{Value}
use Rattle.mg_revtree.specs.Revision.{Revision}
use Rattle.mg_revtree.specs.History.{Paths}
use Rattle.mg_revtree.specs.Changes.{path_of, with_path}
use Rattle.mg_revtree.specs.Tree.{Tree, StandsFor}
use Rattle.mg_doc.specs.Applied.{error_of, refusal_in}
use Rattle.mg_doc.specs.Edit.{Accepted}
use Rattle.mg_doc.specs.declared.error.EditError.{EditError}
use Rattle.mg_doc.specs.declared.error.EditRefusal.{EditRefusal}

-- a reported refusal is the one that the definition gives; an error that reports no refusal may come at any time
abbrev pub ReportsRefusal : {A : Type 0} → Result A EditRefusal → Option EditRefusal → Type 0
ReportsRefusal said (Some refused) = said ≡ Err refused
ReportsRefusal said None = Unit {0}

-- the result and the tree agree with what the definition says: the path was accepted, and the tree then stands for the history with it;
-- or the result reports the refusal; or memory ran out
abbrev pub AcceptsAs : Paths → Bool → Value → Result Accepted EditRefusal → Result Revision EditError → Tree → Type 0
AcceptsAs h deleted body said (Ok r) t = (rs : List Revision) × (said ≡ Ok (r, rs)) × StandsFor t (with_path h (path_of (r ∷ rs) deleted body))
AcceptsAs h deleted body said (Err x) t = ReportsRefusal said (refusal_in x)

-- a refusal is reported, whatever memory there is
abbrev pub HidesNone : {A : Type 0} → Result A EditRefusal → Result Revision EditError → Type 0
HidesNone said result = (refused : EditRefusal) → said ≡ Err refused → result ≡ Err (error_of refused)
