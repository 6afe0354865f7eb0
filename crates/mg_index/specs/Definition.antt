-- Index definitions, after `_index` of the CouchDB 3.x API reference: JSON indexes, all of whose columns have one direction.
-- If a body gives no name, the name is an MD5 digest (RFC 1321) of the fields, in lower-case hexadecimal.
use Rattle.std.specs.Prelude.{ℕ, List, [], ◌∷◌, ◌++◌, codes, map, nat_eq, refl, if◌then◌else◌}
use Rattle.std.specs.Coded.{Coded, code_by, coded×, coded_ℕ, coded_list}
use Rattle.std.specs.List.{starts_with}
use Rattle.md5.specs.Md5.{md5}
use Rattle.hex.specs.Hex.{encode_lower}
use Rattle.mg_value.specs.Value.{Value, null, text, list, object, no_members, member}
use Rattle.mg_value.specs.View.{items_of}
use Rattle.mg_value.specs.Text.{compact}
use Rattle.mg_collate.specs.Direction.{direction_name}
use Rattle.mg_collate.specs.contracts.direction.Direction as direction
use Rattle.mg_collate.specs.declared.direction.Direction.{Direction}
use Rattle.mg_collate.specs.declared.direction.Direction.TheVariants.{Asc}

-- the steps of a path
abbrev pub Steps : Type 0
Steps = List (List ℕ)

-- an index: its design document, its name, the texts of its columns' paths as they were given, the columns as steps, and the
-- direction that was given for them
pub record IndexDefinition : Type 0 where
  pub ddoc : List ℕ
  pub name : List ℕ
  pub texts : List (List ℕ)
  pub columns : List Steps
  pub direction : Direction

-- how the logic stores a definition
abbrev pub definition_code : Coded IndexDefinition
definition_code =
    code_by (List ℕ × (List ℕ × (List (List ℕ) × (List Steps × Direction))))
    (coded× (coded_list coded_ℕ) (coded× (coded_list coded_ℕ) (coded× (coded_list (coded_list coded_ℕ)) (coded× (coded_list (coded_list (coded_list coded_ℕ))) direction.the_row.coded))))
    (λ d. (d.ddoc, (d.name, (d.texts, (d.columns, d.direction)))))
    (λ p. record { ddoc = p.0; name = p.1.0; texts = p.1.1.0; columns = p.1.1.1.0; direction = p.1.1.1.1 }) (λ _. refl)

-- a column as it is listed: `{path: direction}`
abbrev pub field_value : Direction → List ℕ → Value
field_value direction path = object (member path (text (direction_name direction)) no_members)

-- `{"fields":[{path: direction},..]}`
abbrev pub fields_value : Direction → List (List ℕ) → Value
fields_value direction paths = object (member (codes "fields") (list (items_of (map (field_value direction) paths))) no_members)

-- the MD5 digest of the fields' compact text, in lower-case hexadecimal
abbrev pub fields_digest : Direction → List (List ℕ) → List ℕ
fields_digest direction paths = encode_lower (md5 (compact (fields_value direction paths)))

-- what the names of design documents begin with
abbrev pub design_prefix : List ℕ
design_prefix = codes "_design/"

-- the name of a design document: `_design/` is put before a text that does not begin with it
abbrev pub design_document : List ℕ → List ℕ
design_document t = if starts_with nat_eq t design_prefix then t else design_prefix ++ t

-- an index as it is listed: `{"ddoc":..,"def":{"fields":[..]},"name":..,"type":"json"}`
abbrev pub listed_of : IndexDefinition → Value
listed_of d =
    object (member (codes "ddoc") (text d.ddoc) (member (codes "def") (fields_value d.direction d.texts)
    (member (codes "name") (text d.name) (member (codes "type") (text (codes "json")) no_members))))

-- the index of all documents as it is listed: `{"ddoc":null,"def":{"fields":[{"_id":"asc"}]},"name":"_all_docs","type":"special"}`
abbrev pub listed_all_docs : Value
listed_all_docs =
    object (member (codes "ddoc") null (member (codes "def") (fields_value Asc (codes "_id" ∷ []))
    (member (codes "name") (text (codes "_all_docs")) (member (codes "type") (text (codes "special")) no_members))))
