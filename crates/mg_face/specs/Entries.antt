-- How the answer to a bulk is shown, some of whose documents were refused before: with their entries among those of the others.
use Rattle.std.specs.Prelude.{List, [], ◌∷◌, ◌==◌, Option, Some, None, option_and_then, if◌then◌else◌}
use Rattle.mg_value.specs.Value.{Value, list, item_list}
use Rattle.mg_value.specs.View.{items_of}
use Rattle.mg_engine.specs.Bodies.{line_of}
use Rattle.mg_engine.specs.Commands as engine
use Rattle.mg_wire.specs.declared.status.Status.TheVariants as Status
use Rattle.mg_face.specs.Answer.{Answer, json, passed}
use Rattle.mg_face.specs.Json.{value_of_line}

-- for each document, in order: its entry if it was refused before, else the next one of the others, of which none is lost
abbrev pub with_refusals : List (Option Value) → List Value → List Value
with_refusals [] entries = entries
with_refusals (Some refused ∷ refusals) entries = refused ∷ with_refusals refusals entries
with_refusals (None ∷ refusals) [] = with_refusals refusals []
with_refusals (None ∷ refusals) (entry ∷ entries) = entry ∷ with_refusals refusals entries

-- the items of a list
abbrev pub listed : Value → Option (List Value)
listed (list vs) = Some (item_list vs)
listed v = None

-- the entries of a bulk that was executed
abbrev pub entries_in : engine.Answer → Option (List Value)
entries_in a = if a.status == 201 then option_and_then listed (value_of_line a.body) else None

-- the answer with these entries; without any, the answer to the bulk as it is
abbrev pub completed_with : List (Option Value) → engine.Answer → Option (List Value) → Answer
completed_with refusals a (Some entries) = json Status.Created (line_of (list (items_of (with_refusals refusals entries))))
completed_with refusals a None = passed a

-- the answer to a bulk of whose documents these were refused before
abbrev pub completed : List (Option Value) → engine.Answer → Answer
completed refusals a = completed_with refusals a (entries_in a)
