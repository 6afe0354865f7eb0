-- How an answer of the database is shown.
use Rattle.std.specs.Prelude.{List, map, Option, option_map}
use Rattle.mg_value.specs.Value.{Value}
use Rattle.mg_value.specs.View.{view}
use Rattle.mg_face.specs.declared.edited.Change.{Change}
use Rattle.mg_face.specs.declared.plan.Way as code
use Rattle.mg_face.specs.declared.plan.Way.TheVariants.{Plain, Document, Edit, Bulk}

-- As it is; as an answer that shows a document; as one to one edit, which has this entry where the answer lists none; as one to a bulk, for each
-- of whose documents, in order, its entry is given if it was refused before.
pub data Way : Type 0 where
  plain : Way
  document : Way
  edit : Change → Option Value → Way
  bulk : List (Option Value) → Way

-- what a way of the code stands for
abbrev pub way_view : code.Way → Way
way_view Plain = plain
way_view Document = document
way_view (Edit change entry) = edit change (option_map view entry)
way_view (Bulk refusals) = bulk (map (option_map view) refusals.items)
