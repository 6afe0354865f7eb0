-- What the table of routes and the states of a match stand for.
use Rattle.std.specs.Prelude.{map}
use Rattle.std.specs.Cow.{cow_slice_items}
use Rattle.mg_http.specs.declared.request.routes.RouteSegment.{RouteSegment}
use Rattle.mg_http.specs.declared.request.routes.RouteSegment.TheVariants.{Literal, Parameter}
use Rattle.mg_http.specs.declared.request.routes.Route.{Route}
use Rattle.mg_http.specs.declared.request.route_match.RouteMatch.{RouteMatch}
use Rattle.mg_http.specs.Routes as spec
use Rattle.mg_http.specs.Walk as walk

-- the part of a route that a `RouteSegment` of the code stands for
abbrev pub part_view : RouteSegment → spec.RouteSegment
part_view (Literal segment) = spec.literal segment.now
part_view Parameter = spec.parameter

-- the route that a row of the table stands for
abbrev pub route_of : Route → spec.Route
route_of r = record { method = r.method.now; path = map part_view r.path.now; action = r.action }

-- the state of a match that a `RouteMatch` stands for
abbrev pub match_in : RouteMatch → walk.RouteMatch
match_in p = record { routes_left = map route_of (cow_slice_items p.routes); parameters = map (λ v. v.items) p.parameters.items }
