-- The query that a `Query` stands for, and what a call that reads one returns.
use Rattle.std.specs.Prelude.{◌≡◌, Option, option_map, Result, Ok, Err}
use denote.Ref.{Bor}
use Rattle.mg_value.specs.Value.{Value}
use Rattle.mg_value.specs.View.{view}
use Rattle.mg_value.specs.declared.value.Json.{Json}
use Rattle.mg_selector.specs.View.{selector_of}
use Rattle.mg_bookmark.specs.View.{bookmark_place}
use Rattle.mg_index.specs.View.{hint_of}
use Rattle.mg_query.specs.Query.{Query, rendered_fields_of}
use Rattle.mg_query.specs.declared.error.QueryError.{QueryError}
use Rattle.mg_query.specs.declared.error.QueryError.TheVariants.{Shape, InvalidOperator, BadArg, BadBookmark, MixedSort, NoMemory}
use Rattle.mg_query.specs.declared.query.Query as code

-- the value that a lent one stands for, if there is one
abbrev pub optional_view : Option (Bor Json) → Option Value
optional_view = option_map (λ v. view v.now)

-- the query that the code's `Query` stands for
abbrev pub query_view : code.Query → Query
query_view q = record {
  selector = selector_of q.selector;
  fields = q.fields.items;
  limit = q.limit;
  skip = q.skip;
  sort = q.sort.paths.items;
  direction = q.sort.direction;
  hint = hint_of q.hint;
  bookmark = option_map bookmark_place q.bookmark;
  conflicts = q.conflicts;
  given_selector = view q.given_selector.now;
  rendered_fields = rendered_fields_of (optional_view q.given_fields);
  given_bookmark = q.given_bookmark.now;
}

-- the definition's result is this fault; it may be any result if the fault is `NoMemory`
abbrev pub Fails : {Y : Type 0} → QueryError → Result Y QueryError → Type 0
Fails Shape r = r ≡ Err Shape
Fails InvalidOperator r = r ≡ Err InvalidOperator
Fails BadArg r = r ≡ Err BadArg
Fails BadBookmark r = r ≡ Err BadBookmark
Fails MixedSort r = r ≡ Err MixedSort
Fails NoMemory r = Unit {0}

-- the call returned what the definition reads, or its fault, unless an allocation failed; `item_view` gives what a value of the code stands for
abbrev pub ReadsAs : {X Y : Type 0} → (X → Y) → Result X QueryError → Result Y QueryError → Type 0
ReadsAs item_view (Ok x) r = r ≡ Ok (item_view x)
ReadsAs item_view (Err e) r = Fails e r
