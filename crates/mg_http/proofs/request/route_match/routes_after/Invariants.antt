use Rattle.std.proofs.Common.{◌≡◌, map, take}
use Rattle.std.specs.List.{filter_map}
use Rattle.mg_http.specs.RouteViews.{part_view, route_of}
use Rattle.mg_http.specs.Walk.{route_after}
use Rattle.mg_http.proofs.request.route_match.routes_after.Given as goal

abbrev pub invariant-loop-route : goal.invariant-loop-route
invariant-loop-route l =
    map route_of l.routes_after.items ≡ filter_map (λ r. route_after (part_view l.fn.part) (route_of r)) (take l.route-index l.routes)
