-- A document of a bulk, as the code sorts it.
use Rattle.std.specs.Prelude.{◌≡◌, Some, None}
use Rattle.serde_json.specs.Data.{Data}
use Rattle.mg_value.specs.View.{view}
use Rattle.mg_face.specs.Bulk.{id_in, not_whole_entry}
use Rattle.mg_face.specs.Numbers.{value_of}
use Rattle.mg_face.specs.declared.bulk.Document.{Document}
use Rattle.mg_face.specs.declared.bulk.Document.TheVariants.{Executed, Refused}

-- a document that has a value is executed; any other one is refused
abbrev pub IsSortedOut : Data → Document → Type 0
IsSortedOut d (Executed v) = value_of d ≡ Some (view v)
IsSortedOut d (Refused entry) = (value_of d ≡ None) × (view entry ≡ not_whole_entry (id_in d))
