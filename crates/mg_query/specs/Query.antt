-- How the body of a query is read, after CouchDB's `_find`. Faults are looked for in this order: all shapes, the selector, the bookmark's
-- text, and a sort in both directions.
use Rattle.std.specs.Prelude.{ℕ, pos, nat_le, List, [], ◌∷◌, Bool, false, codes, Option, Some, None, option_and_then, Result, Ok, Err, if◌then◌else◌, ok_or}
use Rattle.std.specs.List.{list_all}
use Rattle.std.specs.Option.{option_map_or, option_or}
use Rattle.std.specs.Result.{result_err}
use Rattle.std.specs.Str.{bytes_eq}
use Rattle.mg_value.specs.Value.{Value, null, flag, whole, text, list, object, no_items, item, member_of, item_list}
use Rattle.mg_value.specs.Results.{◌>>=◌}
use Rattle.mg_path.specs.Part.{steps_of}
use Rattle.mg_path.specs.declared.error.PathError.{PathError}
use Rattle.mg_path.specs.declared.error.PathError.TheVariants as path_fault
use Rattle.mg_collate.specs.declared.direction.Direction.{Direction}
use Rattle.mg_collate.specs.declared.direction.Direction.TheVariants.{Asc}
use Rattle.mg_selector.specs.Selector.{Selector}
use Rattle.mg_selector.specs.Reading.{reading}
use Rattle.mg_selector.specs.declared.error.SelError.{SelError}
use Rattle.mg_selector.specs.declared.error.SelError.TheVariants as selector_fault
use Rattle.mg_bookmark.specs.Bookmark.{RowPlace}
use Rattle.mg_bookmark.specs.Letters.{has_only_letters}
use Rattle.mg_bookmark.specs.Reading.{bookmark_read}
use Rattle.mg_index.specs.Choice.{Hint, no_hint, in_document, exactly}
use Rattle.mg_index.specs.Definition.{Steps, design_document}
use Rattle.mg_index.specs.Reading.{each_of, field_path, field_direction, is_same}
use Rattle.mg_query.specs.declared.error.QueryError.{QueryError}
use Rattle.mg_query.specs.declared.error.QueryError.TheVariants.{Shape, InvalidOperator, BadArg, BadBookmark, MixedSort, NoMemory}

-- what a query asks for: its selector; the paths of the parts that a page shows of a document (empty: the whole); how many documents a
-- page has at most, and how many it skips; its sort, which may be empty, and its direction; which indexes it prefers; the place after
-- which the page begins; and whether conflicts are shown. It also has the selector and the bookmark as they were given, and the fields as
-- `_explain` renders them
pub record Query : Type 0 where
  pub selector : Selector
  pub fields : List Steps
  pub limit : ℕ
  pub skip : ℕ
  pub sort : List Steps
  pub direction : Direction
  pub hint : Hint
  pub bookmark : Option RowPlace
  pub conflicts : Bool
  pub given_selector : Value
  pub rendered_fields : Value
  pub given_bookmark : List ℕ

-- ---- faults

-- the query's fault for a fault of its selector
abbrev pub fault_of_selector : SelError → QueryError
fault_of_selector selector_fault.InvalidOperator = InvalidOperator
fault_of_selector selector_fault.BadArg = BadArg
fault_of_selector selector_fault.Shape = Shape
fault_of_selector selector_fault.NoMemory = NoMemory

-- a selector that was read, or the query's fault for the selector's fault
abbrev pub selector_or_fault : Result Selector SelError → Result Selector QueryError
selector_or_fault (Ok s) = Ok s
selector_or_fault (Err e) = Err (fault_of_selector e)

-- the query's fault for a fault of a path of `sort` or `fields`
abbrev pub error_of_path : PathError → QueryError
error_of_path path_fault.Empty = Shape
error_of_path path_fault.NoMemory = NoMemory

-- ---- members: as an argument, `None` stands for an absent member; as a result, for a wrong shape

-- `selector`, an object, which must be there
abbrev pub selector_given : Option Value → Option Value
selector_given (Some (object ms)) = Some (object ms)
selector_given v = None

-- the path that a value spells; `None` if the value is not a text, or the text has an empty step
abbrev pub path_of : Value → Option Steps
path_of (text t) = steps_of t
path_of v = None

-- the paths of `fields`, an array of path texts; no paths if it is absent
abbrev pub fields_of : Option Value → Option (List Steps)
fields_of None = Some []
fields_of (Some (list vs)) = each_of path_of (item_list vs)
fields_of (Some v) = None

-- `fields` as `_explain` renders them: as they were given; `all_fields` if they are absent or empty
abbrev pub rendered_fields_of : Option Value → Value
rendered_fields_of None = text (codes "all_fields")
rendered_fields_of (Some (list no_items)) = text (codes "all_fields")
rendered_fields_of (Some v) = v

-- the greatest `limit` and `skip`
abbrev pub greatest_count : ℕ
greatest_count = 2147483647

-- `limit` and `skip`: a whole number from 0 to `greatest_count`; `otherwise` if it is absent
abbrev pub count_of : ℕ → Option Value → Option ℕ
count_of otherwise None = Some otherwise
count_of otherwise (Some (whole (pos n))) = if nat_le n greatest_count then Some n else None
count_of otherwise (Some v) = None

-- the path of a sort's field; `None` if the field has no path, or the path has an empty step
abbrev pub sort_path : Value → Option Steps
sort_path v = option_and_then steps_of (field_path v)

-- the items of `sort` or `fields`, an array; no items if it is absent. An item of `sort` is a path text, for ascending order, or an object,
-- `{path: "asc"}` or `{path: "desc"}`
abbrev pub items_given : Option Value → Option (List Value)
items_given None = Some []
items_given (Some (list vs)) = Some (item_list vs)
items_given (Some v) = None

-- the direction that all fields share; ascending without fields; `None` if the directions differ
abbrev pub one_direction : List Direction → Option Direction
one_direction [] = Some Asc
one_direction (d ∷ ds) = if list_all (is_same d) ds then Some d else None

-- `use_index`: a design document, or an array: `[]`, `[ddoc]` or `[ddoc, name]`; no hint if it is absent
abbrev pub hint_given : Option Value → Option Hint
hint_given None = Some no_hint
hint_given (Some (text ddoc)) = Some (in_document (design_document ddoc))
hint_given (Some (list no_items)) = Some no_hint
hint_given (Some (list (item (text ddoc) no_items))) = Some (in_document (design_document ddoc))
hint_given (Some (list (item (text ddoc) (item (text name) no_items)))) = Some (exactly (design_document ddoc) name)
hint_given (Some v) = None

-- `bookmark`, a text; `nil` if it is null or absent
abbrev pub bookmark_given : Option Value → Option (List ℕ)
bookmark_given None = Some (codes "nil")
bookmark_given (Some null) = Some (codes "nil")
bookmark_given (Some (text t)) = Some t
bookmark_given (Some v) = None

-- `conflicts`, true or false; false if it is absent
abbrev pub conflicts_of : Option Value → Option Bool
conflicts_of None = Some false
conflicts_of (Some (flag b)) = Some b
conflicts_of (Some v) = None

-- ---- the query

-- the members of a body, whose shapes are right. The sort is given by its paths and directions; the selector and the bookmark are not
-- read yet
pub record Shaped : Type 0 where
  pub selector : Value
  pub fields : List Steps
  pub limit : ℕ
  pub skip : ℕ
  pub sort : List Steps
  pub directions : List Direction
  pub hint : Hint
  pub bookmark : List ℕ
  pub conflicts : Bool

-- the result of f for the value; `None` without a value
infixl 10 ◌>>◌
abbrev pub ◌>>◌ : {A B : Type 0} → Option A → (A → Option B) → Option B
o >> f = option_and_then f o

-- the members of a body; `None` if one has a wrong shape, or `selector` is missing. A member that is not named here is ignored
abbrev pub shaped : Value → Option Shaped
shaped v =
    selector_given (member_of (codes "selector") v) >> (λ selector.
    fields_of (member_of (codes "fields") v) >> (λ fields.
    count_of 25 (member_of (codes "limit") v) >> (λ limit.
    count_of 0 (member_of (codes "skip") v) >> (λ skip.
    items_given (member_of (codes "sort") v) >> (λ sorted.
    each_of sort_path sorted >> (λ sort.
    each_of field_direction sorted >> (λ directions.
    hint_given (member_of (codes "use_index") v) >> (λ hint.
    bookmark_given (member_of (codes "bookmark") v) >> (λ bookmark.
    conflicts_of (member_of (codes "conflicts") v) >> (λ conflicts.
    Some (record {
      selector = selector;
      fields = fields;
      limit = limit;
      skip = skip;
      sort = sort;
      directions = directions;
      hint = hint;
      bookmark = bookmark;
      conflicts = conflicts;
    })))))))))))

-- the query of members whose shapes are right, or the first of their other faults; `fields` is the member as given, `None` if absent
abbrev pub query_with : Option Value → Shaped → Result Query QueryError
query_with fields m =
    selector_or_fault (reading m.selector) >>= (λ selector.
    ok_or (bookmark_read m.bookmark) BadBookmark >>= (λ bookmark.
    ok_or (one_direction m.directions) MixedSort >>= (λ direction.
    Ok (record {
      selector = selector;
      fields = m.fields;
      limit = m.limit;
      skip = m.skip;
      sort = m.sort;
      direction = direction;
      hint = m.hint;
      bookmark = bookmark;
      conflicts = m.conflicts;
      given_selector = m.selector;
      rendered_fields = rendered_fields_of fields;
      given_bookmark = m.bookmark;
    }))))

-- the query in a body, or the body's first fault
abbrev pub query_of : Value → Result Query QueryError
query_of v = ok_or (shaped v) Shape >>= query_with (member_of (codes "fields") v)

-- ---- the fault that is found without taking memory

-- the fault of a bookmark's text and of a sort. The bookmark `nil` needs no reading, so its fault is that of the sort. Any other text has a
-- fault if it has a letter that no bookmark has; otherwise the text has to be read, which takes memory, before the sort is looked at
abbrev pub bookmark_fault : List ℕ → Option QueryError → Option QueryError
bookmark_fault t of_sort = if bytes_eq t (codes "nil") then of_sort else if has_only_letters t then None else Some BadBookmark

-- the fault of members whose shapes are right: the first fault of the selector, or else that of the bookmark and the sort
abbrev pub fault_of_shaped : Shaped → Option QueryError
fault_of_shaped m =
    option_or (result_err (selector_or_fault (reading m.selector))) (bookmark_fault m.bookmark (result_err (ok_or (one_direction m.directions) MixedSort)))

-- the fault of a body: a wrong shape, or else that of its members; `None` if there is neither
abbrev pub early_fault : Value → Option QueryError
early_fault v = option_map_or fault_of_shaped (shaped v) (Some Shape)
