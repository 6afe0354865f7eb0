-- Which index a body of CouchDB's `_index` defines, or its fault: a wrong shape anywhere comes before columns in two directions.
use Rattle.std.specs.Prelude.{◌≡◌, ℕ, List, [], ◌∷◌, ◌++◌, codes, Bool, true, false, not, ◌&&◌, Option, Some, None, option_map, option_and_then, unwrap_or, Result, Ok, Err, if◌then◌else◌, ok_or}
use Rattle.std.specs.List.{list_all}
use Rattle.std.specs.Option.{option_map_or}
use Rattle.std.specs.Str.{bytes_eq}
use Rattle.mg_value.specs.Value.{Value, flag, text, list, object, Members, no_members, member, member_of, item_list}
use Rattle.mg_value.specs.Results.{◌>>=◌}
use Rattle.mg_path.specs.Part.{steps_of}
use Rattle.mg_path.specs.declared.error.PathError.{PathError}
use Rattle.mg_path.specs.declared.error.PathError.TheVariants as path_fault
use Rattle.mg_collate.specs.Direction.{direction_named}
use Rattle.mg_collate.specs.declared.direction.Direction.{Direction}
use Rattle.mg_collate.specs.declared.direction.Direction.TheVariants.{Asc, Desc}
use Rattle.mg_index.specs.Definition.{Steps, IndexDefinition, fields_digest, design_prefix, design_document}
use Rattle.mg_index.specs.declared.error.IndexError.{IndexError}
use Rattle.mg_index.specs.declared.error.IndexError.TheVariants.{Shape, Mixed, NoMemory}

-- what f gives for each item; `None` if f gives `None` for some item
abbrev pub each_of : {A B : Type 0} → (A → Option B) → List A → Option (List B)
each_of f [] = Some []
each_of f (x ∷ xs) = option_and_then (λ y. option_map (λ ys. y ∷ ys) (each_of f xs)) (f x)

-- ---- a column: a path's text, which is ascending, or `{path: "asc"}` or `{path: "desc"}`

-- the only member of an object; `None` if the object has no member or several
abbrev pub only_member : Members → Option (List ℕ × Value)
only_member no_members = None
only_member (member name v no_members) = Some (name, v)
only_member (member name v (member k w ms)) = None

-- the text of a column's path; `None` for a value that is neither a text nor an object of one member
abbrev pub field_path : Value → Option (List ℕ)
field_path (text path) = Some path
field_path (object ms) = option_map (λ m. m.0) (only_member ms)
field_path v = None

-- the direction that a value names; `None` if the value is neither `asc` nor `desc`
abbrev pub direction_in : Value → Option Direction
direction_in (text word) = direction_named word
direction_in v = None

-- the direction of a column; `None` for a value that is not of a column's shape
abbrev pub field_direction : Value → Option Direction
field_direction (text path) = Some Asc
field_direction (object ms) = option_and_then (λ m. direction_in m.1) (only_member ms)
field_direction v = None

-- ---- the columns

-- columns: the texts of their paths, their steps, and their direction
pub record Columns : Type 0 where
  pub texts : List (List ℕ)
  pub steps : List Steps
  pub direction : Direction

-- the directions are equal
abbrev pub is_same : Direction → Direction → Bool
is_same Asc Asc = true
is_same Desc Desc = true
is_same a b = false

-- the direction that all columns have; `Shape` without columns, `Mixed` if the directions differ
abbrev pub one_direction : List Direction → Result Direction IndexError
one_direction [] = Err Shape
one_direction (d ∷ ds) = if list_all (is_same d) ds then Ok d else Err Mixed

-- the columns of these fields, or their fault: `Shape` without fields, or if a field is not a column or its path has an empty step;
-- otherwise `Mixed` if the directions differ
abbrev pub columns_of : List Value → Result Columns IndexError
columns_of vs =
    ok_or (each_of field_path vs) Shape >>= (λ texts.
    ok_or (each_of steps_of texts) Shape >>= (λ steps.
    ok_or (each_of field_direction vs) Shape >>= (λ directions.
    one_direction directions >>= (λ direction.
    Ok (record { texts = texts; steps = steps; direction = direction })))))

-- the columns of `fields`, or their fault; `Shape` if it is absent, not an array or an empty array
abbrev pub columns_read : Option Value → Result Columns IndexError
columns_read (Some (list vs)) = columns_of (item_list vs)
columns_read v = Err Shape

-- ---- the other members

-- the value of `ddoc` or `name`: `Some (Some t)` for a text t that is not empty; `Some None` if it is absent; `None`, which is a fault, for
-- an empty text or for a value that is not a text
abbrev pub text_given : Option Value → Option (Option (List ℕ))
text_given None = Some None
text_given (Some (text (c ∷ t))) = Some (Some (c ∷ t))
text_given (Some v) = None

-- whether `type` is absent or `json`
abbrev pub is_json_type : Option Value → Bool
is_json_type None = true
is_json_type (Some (text t)) = bytes_eq t (codes "json")
is_json_type (Some v) = false

-- whether `partial_filter_selector` is absent or the empty selector
abbrev pub is_no_filter : Option Value → Bool
is_no_filter None = true
is_no_filter (Some (object no_members)) = true
is_no_filter (Some v) = false

-- whether `partitioned` is absent or false
abbrev pub is_not_partitioned : Option Value → Bool
is_not_partitioned None = true
is_not_partitioned (Some (flag b)) = not b
is_not_partitioned (Some v) = false

-- the member of `index` that has this name; `None` if `index` or the member is missing
abbrev pub member_of_index : List ℕ → Value → Option Value
member_of_index name v = option_and_then (member_of name) (member_of (codes "index") v)

-- the body asks for an index of type `json` that is neither filtered nor partitioned
abbrev pub is_json_index : Value → Bool
is_json_index v =
    is_json_type (member_of (codes "type") v) && (is_not_partitioned (member_of (codes "partitioned") v)
    && (is_no_filter (member_of (codes "partial_filter_selector") v) && is_no_filter (member_of_index (codes "partial_filter_selector") v)))

-- ---- the definition

-- the definition of these columns. Without a given name, the name is the digest of the fields; without a given design document, the
-- design document is `_design/` and the digest. `_design/` is put before a given design document that does not begin with it
abbrev pub definition_named : Option (List ℕ) → Option (List ℕ) → Columns → IndexDefinition
definition_named ddoc name c =
    let digest = fields_digest c.direction c.texts in
    record { ddoc = option_map_or design_document ddoc (design_prefix ++ digest); name = unwrap_or name digest; texts = c.texts; columns = c.steps; direction = c.direction }

-- the definition that a body gives, or its fault
abbrev pub definition_of : Value → Result IndexDefinition IndexError
definition_of v =
    if is_json_index v then
    ok_or (text_given (member_of (codes "ddoc") v)) Shape >>= (λ ddoc.
    ok_or (text_given (member_of (codes "name") v)) Shape >>= (λ name.
    columns_read (member_of_index (codes "fields") v) >>= (λ columns.
    Ok (definition_named ddoc name columns))))
    else Err Shape

-- the error of a body when one of its paths has this error
abbrev pub error_of_path : PathError → IndexError
error_of_path path_fault.Empty = Shape
error_of_path path_fault.NoMemory = NoMemory

-- a call returned what the definition gives, where `item_view` is what a value of the code stands for; after `NoMemory`, the definition may
-- give anything
abbrev pub ReadsAs : {X Y : Type 0} → (X → Y) → Result X IndexError → Result Y IndexError → Type 0
ReadsAs item_view (Ok x) r = r ≡ Ok (item_view x)
ReadsAs item_view (Err NoMemory) r = Unit {0}
ReadsAs item_view (Err Shape) r = r ≡ Err Shape
ReadsAs item_view (Err Mixed) r = r ≡ Err Mixed
