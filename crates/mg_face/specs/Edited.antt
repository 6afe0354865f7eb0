-- How the answer to one edit is shown: the entry of a bulk of one document, as CouchDB answers a `PUT`, a `POST` or a `DELETE`.
use Rattle.std.specs.Prelude.{ℕ, ◌==◌, List, [], ◌∷◌, ◌++◌, codes, Option, Some, None, option_and_then, if◌then◌else◌}
use Rattle.http1.specs.Fields.{Header}
use Rattle.percent_encoding.specs.Percent.{percent_encode}
use Rattle.mg_value.specs.Value.{Value, list, item, no_items, without_member}
use Rattle.mg_engine.specs.Bodies.{line_of}
use Rattle.mg_engine.specs.Commands as engine
use Rattle.mg_wire.specs.declared.status.Status.TheVariants as Status
use Rattle.mg_face.specs.declared.edited.Change.{Change}
use Rattle.mg_face.specs.declared.edited.Change.TheVariants as Is
use Rattle.mg_face.specs.declared.edited.TheConstants.{SEGMENT}
use Rattle.mg_face.specs.Json.{value_of_line, string_at}
use Rattle.mg_face.specs.Answer.{Answer, json_field, json, passed, tag_of, if_short}

-- the only item of a list; of one without items, this value
abbrev pub only_item : Option Value → Value → Option Value
only_item otherwise (list no_items) = otherwise
only_item otherwise (list (item v no_items)) = Some v
only_item otherwise v = None

-- a list of one value
abbrev pub list_with : Value → Value
list_with v = list (item v no_items)

-- the answer to a bulk of one edit that has this entry
abbrev pub one_entry : Value → engine.Answer
one_entry v = record { status = 201; body = line_of (list_with v) }

-- the answer to a bulk of one edit that has no entry: a replica's edit that was made
abbrev pub no_entry : engine.Answer
no_entry = record { status = 201; body = line_of (list no_items) }

-- the entry of the only edit of a bulk that was executed; this one, if the answer lists none
abbrev pub entry_in : Option Value → engine.Answer → Option Value
entry_in otherwise a = if a.status == 201 then option_and_then (only_item otherwise) (value_of_line a.body) else None

-- the path of a document
abbrev pub path_of : List ℕ → List ℕ → List ℕ
path_of db id = codes "/" ++ (db ++ (codes "/" ++ percent_encode SEGMENT id))

-- the path of the document of an entry as `Location`
abbrev pub location_of : List ℕ → Option (List ℕ) → List Header
location_of db None = []
location_of db (Some id) = if_short (path_of db id) (codes "location", path_of db id)

-- an edit that was made: 201 and the path of the document where it was written, 200 where it was deleted; its revision as `ETag`
abbrev pub made_answer : List ℕ → Change → Value → List ℕ → Answer
made_answer db Is.Written entry revision = record {
  status = Status.Created;
  fields = json_field ∷ (tag_of revision ++ location_of db (string_at (codes "id") entry));
  body = line_of entry;
}
made_answer db Is.Deleted entry revision = record { status = Status.Ok; fields = json_field ∷ tag_of revision; body = line_of entry }

-- an edit that was refused: its entry says why
abbrev pub refused_answer : Value → Answer
refused_answer entry = json Status.Conflict (line_of (without_member (codes "id") entry))

-- the entry of an edit that was made has its revision
abbrev pub answer_at : List ℕ → Change → Value → Option (List ℕ) → Answer
answer_at db change entry (Some revision) = made_answer db change entry revision
answer_at db change entry None = refused_answer entry

-- the answer that an entry gives
abbrev pub entry_answer : List ℕ → Change → Value → Answer
entry_answer db change entry = answer_at db change entry (string_at (codes "rev") entry)

-- the answer that an entry gives; without one, the answer to the bulk as it is
abbrev pub answer_with : List ℕ → Change → engine.Answer → Option Value → Answer
answer_with db change a (Some entry) = entry_answer db change entry
answer_with db change a None = passed a

-- the answer to one edit of the database `db`, from that to its bulk, and the entry that it has where its bulk lists none
abbrev pub edited : List ℕ → Change → Option Value → engine.Answer → Answer
edited db change otherwise a = answer_with db change a (entry_in otherwise a)
