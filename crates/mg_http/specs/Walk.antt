-- For private clauses: how the code finds the routes that a path matches, segment by segment. If some route that is left has the segment
-- as a literal, only the routes with that literal stay.
use Rattle.std.specs.Prelude.{ℕ, Bool, true, false, not, ◌&&◌, ◌==◌, List, [], ◌∷◌, ◌++◌, length, fold, bytes_eq, find, Option, Some, None, if◌then◌else◌}
use Rattle.std.specs.List.{list_any, list_all, filter_map}
use Rattle.std.specs.Option.{option_map}
use Rattle.std.specs.Str.{is_utf8}
use Rattle.percent_encoding.specs.Percent.{percent_decode}
use Rattle.mg_engine.specs.declared.refusal.Refusal.TheVariants.{Missing, NoDatabase}
use Rattle.mg_http.specs.Routes.{RouteSegment, literal, parameter, Route, routes, same_part}
use Rattle.mg_http.specs.Target.{Request, refuses, requested_by, names}

-- the rest of a path after the part; `None`: the path does not begin with the part
abbrev pub path_after : RouteSegment → List RouteSegment → Option (List RouteSegment)
path_after part [] = None
path_after part (p ∷ ps) = if same_part p part then Some ps else None

-- the rest of a route after the part; `None`: its path does not begin with the part
abbrev pub route_after : RouteSegment → Route → Option Route
route_after part r = option_map (λ path. record r { path = path }) (path_after part r.path)

-- the rests of the routes whose paths begin with the part
abbrev pub routes_after : RouteSegment → List Route → List Route
routes_after part rs = filter_map (route_after part) rs

-- a route's path begins with the part
abbrev pub begins_with : RouteSegment → List RouteSegment → Bool
begins_with part [] = false
begins_with part (p ∷ ps) = same_part p part

-- some route's path begins with the part
abbrev pub any_begins_with : RouteSegment → List Route → Bool
any_begins_with part rs = list_any (λ r. begins_with part r.path) rs

-- the state of a match: the rest of each route that still matches, and the decoded parameters so far
pub record RouteMatch : Type 0 where
  pub routes_left : List Route
  pub parameters : List (List ℕ)

-- the state after one more segment, matched as a literal (`true`) or as a parameter, which no empty segment matches
abbrev pub enter_as : Bool → RouteMatch → List ℕ → RouteMatch
enter_as true matched segment = record matched { routes_left = routes_after (literal segment) matched.routes_left }
enter_as false matched segment = record {
  routes_left = if length segment == 0 then [] else routes_after parameter matched.routes_left;
  parameters = matched.parameters ++ percent_decode segment ∷ [];
}

-- the state after one more segment: a literal goes before a parameter
abbrev pub enter : RouteMatch → List ℕ → RouteMatch
enter matched segment = enter_as (any_begins_with (literal segment) matched.routes_left) matched segment

-- the state after all segments, of which the first one names the database; if there is none, or it is empty, no route is left
abbrev pub match_of : List (List ℕ) → RouteMatch
match_of [] = record { routes_left = []; parameters = [] }
match_of (name ∷ below) =
    fold enter (record { routes_left = if length name == 0 then [] else routes; parameters = percent_decode name ∷ [] }) below

-- nothing of the route's path is left
abbrev pub ends_here : Route → Bool
ends_here r = length r.path == 0

-- nothing of the route's path is left, and it has the method
abbrev pub ends_with_method : List ℕ → Route → Bool
ends_with_method method r = ends_here r && bytes_eq r.method method

-- what the method and the query ask for in the state after all segments
abbrev pub request_at : List ℕ → List ℕ → List ℕ → RouteMatch → Request
request_at db method query matched =
    if not (list_any ends_here matched.routes_left && list_all is_utf8 matched.parameters) then refuses Missing
    else (if names db matched.parameters
    then requested_by (option_map (λ r. r.action) (find (ends_with_method method) matched.routes_left)) matched.parameters query
    else refuses NoDatabase)
