-- What a selector says, after the selector syntax of the CouchDB 3.x API reference (`POST /{db}/_find`).
use Rattle.std.specs.Prelude.{ℕ, ℤ, List, Bool}
use Rattle.mg_value.specs.Value.{Value, Items}
use Rattle.mg_selector.specs.declared.json_type.JsonType.{JsonType}

mutual
  -- a selector, by what it says
  pub data Selector : Type 0 where
    -- the members of an object, in the order of their names
    members : Arms → Selector
    -- `$and`, `$or`, `$nor`, `$not`
    every : Arms → Selector
    some : Arms → Selector
    none : Arms → Selector
    opposite : Selector → Selector
    -- the selector on the part at the steps
    at : List (List ℕ) → Selector → Selector
    -- an operator on the current part
    asks : Operator → Selector

  -- selectors, one after another
  pub data Arms : Type 0 where
    no_arms : Arms
    arm : Selector → Arms → Arms

  -- an operator with its argument; the combinators are selectors
  pub data Operator : Type 0 where
    -- `$lt`, `$lte`, `$eq`, `$ne`, `$gte`, `$gt`
    less : Value → Operator
    at_most : Value → Operator
    equal : Value → Operator
    unequal : Value → Operator
    at_least : Value → Operator
    greater : Value → Operator
    -- `$exists`, `$type`, `$in`, `$nin`, `$size`, `$mod` with its divisor and remainder, `$all`
    exists : Bool → Operator
    of_type : JsonType → Operator
    among : Items → Operator
    not_among : Items → Operator
    size : ℕ → Operator
    modulo : ℤ → ℤ → Operator
    containing : Items → Operator
    -- `$elemMatch`, `$allMatch`
    some_element : Selector → Operator
    each_element : Selector → Operator
