-- The kind of a member, by its name: the names of operators, after the operator tables of the CouchDB 3.x API reference.
use Rattle.std.specs.Prelude.{ℕ, List, [], ◌∷◌, codes, if◌then◌else◌}
use Rattle.std.specs.Str.{bytes_eq}
use Rattle.mg_selector.specs.declared.name_kind.NameKind.{NameKind}
use Rattle.mg_selector.specs.declared.name_kind.NameKind.TheVariants as name_kind
use Rattle.mg_selector.specs.declared.name_kind.ValueOperator.TheVariants as value_operator

-- a name that is not an operator's: an unknown operator if it begins with `$`, else a path
abbrev pub other_kind : List ℕ → NameKind
other_kind [] = name_kind.Path
other_kind (c ∷ k) = if bytes_eq (c ∷ []) (codes "$") then name_kind.Unknown else name_kind.Path

-- the kind of a member with this name
abbrev pub kind_of_name : List ℕ → NameKind
kind_of_name k =
    if bytes_eq k (codes "$and") then name_kind.And
    else if bytes_eq k (codes "$or") then name_kind.Or
    else if bytes_eq k (codes "$nor") then name_kind.Nor
    else if bytes_eq k (codes "$not") then name_kind.Not
    else if bytes_eq k (codes "$elemMatch") then name_kind.ElemMatch
    else if bytes_eq k (codes "$allMatch") then name_kind.AllMatch
    else if bytes_eq k (codes "$lt") then name_kind.Value value_operator.Lt
    else if bytes_eq k (codes "$lte") then name_kind.Value value_operator.Lte
    else if bytes_eq k (codes "$eq") then name_kind.Value value_operator.Eq
    else if bytes_eq k (codes "$ne") then name_kind.Value value_operator.Ne
    else if bytes_eq k (codes "$gte") then name_kind.Value value_operator.Gte
    else if bytes_eq k (codes "$gt") then name_kind.Value value_operator.Gt
    else if bytes_eq k (codes "$exists") then name_kind.Value value_operator.Exists
    else if bytes_eq k (codes "$type") then name_kind.Value value_operator.Type
    else if bytes_eq k (codes "$in") then name_kind.Value value_operator.In
    else if bytes_eq k (codes "$nin") then name_kind.Value value_operator.Nin
    else if bytes_eq k (codes "$size") then name_kind.Value value_operator.Size
    else if bytes_eq k (codes "$mod") then name_kind.Value value_operator.Mod
    else if bytes_eq k (codes "$all") then name_kind.Value value_operator.All
    else other_kind k
