-- A design document of indexes, as CouchDB shows one that `_index` made: each index is a view. It has no `_rev`, since indexes have no revisions.
use Rattle.std.specs.Prelude.{ℕ, Bool, List, [], ◌∷◌, codes, Option, Some, None, if◌then◌else◌}
use Rattle.std.specs.List.{list_any}
use Rattle.std.specs.Str.{bytes_eq}
use Rattle.mg_value.specs.Value.{Value, text, list, object, item_list, member, no_members, member_of, with_member}
use Rattle.mg_index.specs.Definition.{IndexDefinition, fields_value}
use Rattle.mg_engine.specs.Commands.{Answer, ok_answer, refused}
use Rattle.mg_engine.specs.declared.refusal.Refusal.TheVariants.{Missing}

-- an object with the first member of another value, if that is an object
abbrev pub with_first : Value → Value → Value
with_first (object (member name v ms)) into = with_member name v into
with_first v into = into

-- an object with the first member of each of these values
abbrev pub with_firsts : List Value → Value → Value
with_firsts [] into = into
with_firsts (v ∷ vs) into = with_firsts vs (with_first v into)

-- columns that are listed, as one object: `{path: direction, ..}`
abbrev pub columns_in : Option Value → Value
columns_in (Some (list vs)) = with_firsts (item_list vs) (object no_members)
columns_in v = object no_members

-- `{"fields":[{path: direction}, ..]}`: the columns of an index as they are listed
abbrev pub def_value : IndexDefinition → Value
def_value d = fields_value d.direction d.texts

-- the columns of an index as one object
abbrev pub columns_value : IndexDefinition → Value
columns_value d = columns_in (member_of (codes "fields") (def_value d))

-- an index as a view
abbrev pub view_value : IndexDefinition → Value
view_value d = object (
    member (codes "map") (object (member (codes "fields") (columns_value d) (member (codes "partial_filter_selector") (object no_members) no_members))) (
    member (codes "options") (object (member (codes "def") (def_value d) no_members)) (
    member (codes "reduce") (text (codes "_count")) no_members)))

-- the views with that of an index, if it is of this design document
abbrev pub with_view : List ℕ → IndexDefinition → Value → Value
with_view ddoc d views = if bytes_eq d.ddoc ddoc then with_member d.name (view_value d) views else views

-- the views with those of indexes that are of this design document
abbrev pub with_views : List ℕ → List IndexDefinition → Value → Value
with_views ddoc [] views = views
with_views ddoc (d ∷ ds) views = with_views ddoc ds (with_view ddoc d views)

-- the design document of this name, by all indexes
abbrev pub design_value : List ℕ → List IndexDefinition → Value
design_value ddoc ds = object (
    member (codes "_id") (text ddoc) (
    member (codes "language") (text (codes "query")) (
    member (codes "views") (with_views ddoc ds (object no_members)) no_members)))

-- an index is of this design document
abbrev pub is_design : List ℕ → List IndexDefinition → Bool
is_design ddoc ds = list_any (λ d. bytes_eq d.ddoc ddoc) ds

-- the answer with the design document; `missing` if no index is of it
abbrev pub design_answer : List ℕ → List IndexDefinition → Answer
design_answer ddoc ds = if is_design ddoc ds then ok_answer (design_value ddoc ds) else refused Missing
