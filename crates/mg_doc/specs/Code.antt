-- How the logic stores an edit.
use Rattle.std.specs.Prelude.{◌≡◌, List, ℕ, Bool, Option, Some, None, refl}
use Rattle.std.specs.Coded.{Coded, code_by, coded×, coded_ℕ, coded_list, coded_bool, coded_option}
use Rattle.mg_value.specs.Value.{Value}
use Rattle.mg_value.specs.Code.{value_code}
use Rattle.mg_revtree.specs.Revision.{Revision}
use Rattle.mg_revtree.specs.Tree.{revision_code}
use Rattle.mg_doc.specs.Document.{Edit}
use Rattle.mg_doc.specs.declared.change.Change.{Change}
use Rattle.mg_doc.specs.declared.change.Change.TheVariants.{New, Replica}

-- a change as its two parts: the path of a replica, if it is one, and the revision that is named
abbrev pub change_parts : Change → Option (List Revision) × Option Revision
change_parts (New named) = (None, named)
change_parts (Replica run) = (Some run, None)

-- the change that has these two parts; with a path, the named revision is ignored
abbrev pub change_from : Option (List Revision) → Option Revision → Change
change_from None named = New named
change_from (Some run) named = Replica run

-- the change of a pair of parts
abbrev pub change_made : Option (List Revision) × Option Revision → Change
change_made p = change_from p.0 p.1

-- the parts of a change give the change back
pub change_back : (c : Change) → change_made (change_parts c) ≡ c
change_back (New named) = refl
change_back (Replica run) = refl

-- how the logic stores a change
abbrev pub change_code : Coded Change
change_code = code_by (Option (List Revision) × Option Revision) (coded× (coded_option (coded_list revision_code)) (coded_option revision_code)) change_parts change_made change_back

-- how the logic stores an edit
abbrev pub edit_code : Coded Edit
edit_code =
    code_by (Option (List ℕ) × (Change × (Bool × Value)))
    (coded× (coded_option (coded_list coded_ℕ)) (coded× change_code (coded× coded_bool value_code)))
    (λ e. (e.id, (e.change, (e.deleted, e.body))))
    (λ p. record { id = p.0; change = p.1.0; deleted = p.1.1.0; body = p.1.1.1 }) (λ _. refl)
