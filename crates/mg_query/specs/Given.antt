-- For private clauses: the members of a body as they are lent, before any path is read.
use Rattle.std.specs.Prelude.{ℕ, List, [], ◌∷◌, Bool, ◌&&◌, Option, Some, None, codes, is_some, map, option_and_then, option_map, Result, ok_or, if◌then◌else◌}
use Rattle.std.specs.List.{list_all}
use Rattle.std.specs.Option.{option_map_or, option_or}
use Rattle.std.specs.Result.{result_err}
use Rattle.mg_value.specs.Value.{Value, member_of}
use Rattle.mg_value.specs.View.{view}
use Rattle.mg_value.specs.Results.{◌>>=◌}
use Rattle.mg_collate.specs.declared.direction.Direction.{Direction}
use Rattle.mg_index.specs.Choice.{Hint, no_hint, in_document, exactly}
use Rattle.mg_index.specs.Definition.{design_document}
use Rattle.mg_index.specs.Fault.{is_directed}
use Rattle.mg_index.specs.Reading.{each_of, field_direction}
use Rattle.mg_selector.specs.Reading.{reading}
use Rattle.mg_query.specs.Query.{Query, Shaped, bookmark_fault, fault_of_shaped, query_with, selector_or_fault, path_of, sort_path, items_given, selector_given, count_of, hint_given, bookmark_given, conflicts_of}
use Rattle.mg_query.specs.declared.error.QueryError.{QueryError}
use Rattle.mg_query.specs.declared.error.QueryError.TheVariants.{MixedSort, Shape as wrong_shape}
use Rattle.mg_query.specs.declared.member.Members as code
use Rattle.mg_query.specs.declared.member.GivenHint as code_hint

-- the members of a body whose shapes are right, apart from the items of `fields` and `sort`; selector and bookmark are not read yet
pub record Given : Type 0 where
  pub selector : Value
  pub fields : List Value
  pub limit : ℕ
  pub skip : ℕ
  pub sort : List Value
  pub hint : Hint
  pub bookmark : List ℕ
  pub conflicts : Bool

-- the members of a body, before paths and directions are read; `None` if one has a wrong shape, or `selector` is missing
abbrev pub given : Value → Option Given
given v =
    option_and_then (λ selector. option_and_then (λ fields. option_and_then (λ limit. option_and_then (λ skip. option_and_then (λ sort.
    option_and_then (λ hint. option_and_then (λ bookmark. option_map (λ conflicts.
    record { selector = selector; fields = fields; limit = limit; skip = skip; sort = sort; hint = hint; bookmark = bookmark; conflicts = conflicts })
    (conflicts_of (member_of (codes "conflicts") v)))
    (bookmark_given (member_of (codes "bookmark") v)))
    (hint_given (member_of (codes "use_index") v)))
    (items_given (member_of (codes "sort") v)))
    (count_of 0 (member_of (codes "skip") v))) (count_of 25 (member_of (codes "limit") v)))
    (items_given (member_of (codes "fields") v)))
    (selector_given (member_of (codes "selector") v))

-- the members with these paths and directions
abbrev pub with_parts : Given → List (List (List ℕ)) → List (List (List ℕ)) → List Direction → Shaped
with_parts g fields sort directions = record {
  selector = g.selector;
  fields = fields;
  limit = g.limit;
  skip = g.skip;
  sort = sort;
  directions = directions;
  hint = g.hint;
  bookmark = g.bookmark;
  conflicts = g.conflicts;
}

-- the members with their paths and directions; `None` if one of these cannot be read
abbrev pub parsed : Given → Option Shaped
parsed g =
    option_and_then (λ fields. option_and_then (λ sort. option_map (λ directions. with_parts g fields sort directions)
    (each_of field_direction g.sort)) (each_of sort_path g.sort)) (each_of path_of g.fields)

-- the query of given members, or their first fault; `fields` is the member as it was given, `None` if it was absent
abbrev pub query_given : Option Value → Given → Result Query QueryError
query_given fields g = ok_or (parsed g) wrong_shape >>= query_with fields

-- ---- the fault that is found without taking memory

-- whether a value of `fields` gives a path
abbrev pub gives_path : Value → Bool
gives_path v = is_some (path_of v)

-- whether an item of `sort` gives a path and a direction
abbrev pub gives_sort : Value → Bool
gives_sort v = is_some (sort_path v) && is_some (field_direction v)

-- the fault of a sort's items, each of which gives a direction: `MixedSort` if one of them differs from the first
abbrev pub sort_fault : List Value → Option QueryError
sort_fault [] = None
sort_fault (v ∷ vs) = option_map_or (λ d. if list_all (is_directed d) vs then None else Some MixedSort) (field_direction v) None

-- the fault of given members whose shapes are right: the first fault of the selector, or else that of the bookmark and the sort
abbrev pub fault_in_turn : Given → Option QueryError
fault_in_turn g = option_or (result_err (selector_or_fault (reading g.selector))) (bookmark_fault g.bookmark (sort_fault g.sort))

-- the fault of given members: a wrong shape, or else the next fault in turn; `None` if there is neither
abbrev pub fault_given : Given → Option QueryError
fault_given g = option_map_or fault_of_shaped (parsed g) (Some wrong_shape)

-- ---- what the code's members stand for

-- the hint that the code's `GivenHint` stands for
abbrev pub hint_view : code_hint.GivenHint → Hint
hint_view code_hint.TheVariants.None = no_hint
hint_view (code_hint.TheVariants.Ddoc ddoc) = in_document (design_document ddoc.now)
hint_view (code_hint.TheVariants.Both ddoc name) = exactly (design_document ddoc.now) name.now

-- the members that the code's `Members` stands for
abbrev pub given_view : code.Members → Given
given_view g = record {
  selector = view g.selector.now;
  fields = map view g.fields.now;
  limit = g.limit;
  skip = g.skip;
  sort = map view g.sort.now;
  hint = hint_view g.hint;
  bookmark = g.bookmark.now;
  conflicts = g.conflicts;
}
