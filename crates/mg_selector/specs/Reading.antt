-- Which selector a value spells, or its first fault, after the selector syntax of the CouchDB 3.x API reference. A member is read
-- whole before the one with the next name, and an arm before the next arm.
use Rattle.std.specs.Prelude.{◌≡◌, ℕ, List, Result, Ok, Err}
use Rattle.std.specs.Option.{option_map_or}
use Rattle.mg_value.specs.Value.{Value, null, flag, whole, text, list, object, Items, no_items, item, Members, no_members, member}
use Rattle.mg_value.specs.Results.{◌>>=◌}
use Rattle.mg_path.specs.Part.{steps_of}
use Rattle.mg_selector.specs.Argument.{operator_with}
use Rattle.mg_selector.specs.Fault.{fmap}
use Rattle.mg_selector.specs.Selector.{Selector, members, every, some, none, opposite, at, asks, Arms, no_arms, arm, equal, some_element, each_element}
use Rattle.mg_selector.specs.NameKind.{kind_of_name}
use Rattle.mg_selector.specs.declared.error.SelError.{SelError}
use Rattle.mg_selector.specs.declared.error.SelError.TheVariants.{InvalidOperator, BadArg, Shape, NoMemory}
use Rattle.mg_selector.specs.declared.name_kind.NameKind.{NameKind}
use Rattle.mg_selector.specs.declared.name_kind.NameKind.TheVariants as name_kind

-- the definition gives the error that a call returned; if the call returned `NoMemory`, the definition may give anything
abbrev pub Fails : {Y : Type 0} → SelError → Result Y SelError → Type 0
Fails NoMemory r = Unit {0}
Fails InvalidOperator r = r ≡ Err InvalidOperator
Fails BadArg r = r ≡ Err BadArg
Fails Shape r = r ≡ Err Shape

-- a call returned what the definition gives, where `item_view` is what a value of the code stands for; after `NoMemory`, the definition may
-- give anything
abbrev pub ReadsAs : {X Y : Type 0} → (X → Y) → Result X SelError → Result Y SelError → Type 0
ReadsAs item_view (Ok x) r = r ≡ Ok (item_view x)
ReadsAs item_view (Err e) r = Fails e r

-- the argument of a path, where `inner` is its reading as a selector: an object with members is a selector; any other value is the
-- argument of `$eq`
abbrev pub argument : Value → Result Selector SelError → Result Selector SelError
argument (object (member k v ms)) inner = inner
argument v inner = Ok (asks (equal v))

-- the selector on the part at the path k, with the argument v, where `inner` is the reading of v as a selector; `BadArg` if the path has
-- an empty step, whatever its argument is
abbrev pub path_named : List ℕ → Value → Result Selector SelError → Result Selector SelError
path_named k v inner = option_map_or (λ steps. fmap (at steps) (argument v inner)) (steps_of k) (Err BadArg)

-- a member of this kind, where `inner` is the reading of its value as a selector, and `arms` its reading as an array of selectors
abbrev pub by_kind : NameKind → List ℕ → Value → Result Selector SelError → Result Arms SelError → Result Selector SelError
by_kind name_kind.And k v inner arms = fmap every arms
by_kind name_kind.Or k v inner arms = fmap some arms
by_kind name_kind.Nor k v inner arms = fmap none arms
by_kind name_kind.Not k v inner arms = fmap opposite inner
by_kind name_kind.ElemMatch k v inner arms = fmap (λ s. asks (some_element s)) inner
by_kind name_kind.AllMatch k v inner arms = fmap (λ s. asks (each_element s)) inner
by_kind (name_kind.Value o) k v inner arms = fmap asks (operator_with o v)
by_kind name_kind.Unknown k v inner arms = Err InvalidOperator
by_kind name_kind.Path k v inner arms = path_named k v inner

-- a member by its name
abbrev pub named : List ℕ → Value → Result Selector SelError → Result Arms SelError → Result Selector SelError
named k v inner arms = by_kind (kind_of_name k) k v inner arms

abbrev mutual
  -- a selector inside another, or its first fault; `BadArg` for a value that is not an object
  pub of_object : Value → Result Selector SelError
  of_object null = Err BadArg
  of_object (flag b) = Err BadArg
  of_object (whole z) = Err BadArg
  of_object (text s) = Err BadArg
  of_object (list vs) = Err BadArg
  of_object (object ms) = fmap members (of_members ms)

  -- the arms of a combinator (`$and`, `$or`, `$nor`), or their first fault; `BadArg` for a value that is not an array
  pub of_arms : Value → Result Arms SelError
  of_arms null = Err BadArg
  of_arms (flag b) = Err BadArg
  of_arms (whole z) = Err BadArg
  of_arms (text s) = Err BadArg
  of_arms (list vs) = of_items vs
  of_arms (object ms) = Err BadArg

  -- the items as arms, or their first fault
  pub of_items : Items → Result Arms SelError
  of_items no_items = Ok no_arms
  of_items (item v vs) = of_object v >>= λ s. fmap (arm s) (of_items vs)

  -- the members as arms, or their first fault
  pub of_members : Members → Result Arms SelError
  of_members no_members = Ok no_arms
  of_members (member k v ms) = named k v (of_object v) (of_arms v) >>= λ s. fmap (arm s) (of_members ms)

-- the selector that the value spells, or its first fault; `Shape` for a value that is not an object
abbrev pub reading : Value → Result Selector SelError
reading (object ms) = fmap members (of_members ms)
reading v = Err Shape

-- the value is an object
abbrev pub IsObject : Value → Type 0
IsObject (object ms) = Unit {0}
IsObject v = ⊥
