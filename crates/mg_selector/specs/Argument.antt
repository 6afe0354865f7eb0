-- The arguments of the operators, after the operator tables of the CouchDB 3.x API reference.
use Rattle.std.specs.Prelude.{ℕ, pos, List, codes, Option, Some, None, Result, Ok, Err, ◌==◌, unsigned_abs, if◌then◌else◌}
use Rattle.std.specs.Str.{bytes_eq}
use Rattle.std.specs.Option.{option_map_or}
use Rattle.mg_value.specs.Value.{Value, flag, whole, text, list, Items, no_items, item}
use Rattle.mg_selector.specs.Fault.{fmap}
use Rattle.mg_selector.specs.Selector.{Operator, less, at_most, equal, unequal, at_least, greater, exists, of_type, among, not_among, size, modulo, containing}
use Rattle.mg_selector.specs.declared.error.SelError.{SelError}
use Rattle.mg_selector.specs.declared.error.SelError.TheVariants.{BadArg}
use Rattle.mg_selector.specs.declared.json_type.JsonType.{JsonType}
use Rattle.mg_selector.specs.declared.json_type.JsonType.TheVariants as json_type
use Rattle.mg_selector.specs.declared.name_kind.ValueOperator.{ValueOperator}
use Rattle.mg_selector.specs.declared.name_kind.ValueOperator.TheVariants as value_operator

-- the type that has this name in `$type`; `None` for any other name
abbrev pub type_named : List ℕ → Option JsonType
type_named k =
    if bytes_eq k (codes "null") then Some json_type.Null
    else if bytes_eq k (codes "boolean") then Some json_type.Boolean
    else if bytes_eq k (codes "number") then Some json_type.Number
    else if bytes_eq k (codes "string") then Some json_type.String
    else if bytes_eq k (codes "array") then Some json_type.Array
    else if bytes_eq k (codes "object") then Some json_type.Object
    else None

-- `$exists` takes true or false
abbrev pub exists_of : Value → Result Operator SelError
exists_of (flag there) = Ok (exists there)
exists_of v = Err BadArg

-- `$type` takes the name of a type
abbrev pub type_of : Value → Result Operator SelError
type_of (text name) = option_map_or (λ t. Ok (of_type t)) (type_named name) (Err BadArg)
type_of v = Err BadArg

-- `$size` takes a whole number that is not negative
abbrev pub size_of : Value → Result Operator SelError
size_of (whole (pos n)) = Ok (size n)
size_of v = Err BadArg

-- `$mod` with this divisor and this remainder, which have to be whole numbers; the divisor must not be 0
abbrev pub modulo_by : Value → Value → Result Operator SelError
modulo_by (whole d) (whole r) = if unsigned_abs d == 0 then Err BadArg else Ok (modulo d r)
modulo_by d r = Err BadArg

-- `$mod` takes an array of the divisor and the remainder
abbrev pub modulo_of : Value → Result Operator SelError
modulo_of (list (item d (item r no_items))) = modulo_by d r
modulo_of v = Err BadArg

-- `$in`, `$nin` and `$all` take an array
abbrev pub array_of : Value → Result Items SelError
array_of (list vs) = Ok vs
array_of v = Err BadArg

-- the operator with the value as its argument, or `BadArg` if the operator does not take the value; a comparison takes any value
abbrev pub operator_with : ValueOperator → Value → Result Operator SelError
operator_with value_operator.Lt v = Ok (less v)
operator_with value_operator.Lte v = Ok (at_most v)
operator_with value_operator.Eq v = Ok (equal v)
operator_with value_operator.Ne v = Ok (unequal v)
operator_with value_operator.Gte v = Ok (at_least v)
operator_with value_operator.Gt v = Ok (greater v)
operator_with value_operator.Exists v = exists_of v
operator_with value_operator.Type v = type_of v
operator_with value_operator.In v = fmap among (array_of v)
operator_with value_operator.Nin v = fmap not_among (array_of v)
operator_with value_operator.Size v = size_of v
operator_with value_operator.Mod v = modulo_of v
operator_with value_operator.All v = fmap containing (array_of v)
