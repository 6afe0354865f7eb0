use Rattle.std.proofs.Common.{sym, ap, ◌∙◌}
use Rattle.std.proofs.lemmas.List.{take_all}
use Rattle.std.specs.List.{filter_map}
use Rattle.mg_http.specs.declared.request.routes.Route as rust
use Rattle.mg_http.specs.RouteViews.{part_view, route_of}
use Rattle.mg_http.specs.Walk.{route_after}
use Rattle.mg_http.proofs.RouteLemmas.{filter_map-map, one_behind}
use Rattle.mg_http.proofs.request.route_match.routes_after.Goals as goal

pub loop-route-preserved : goal.loop-route-preserved
loop-route-preserved c =
    one_behind route_of (route_after (part_view c.args.part)) c.args.routes.now c.loop-route.route-index _ c.loop-route.routes_after.items _ c.route_after.result
    c.loop-route-test.true c.loop-route.invariant c.route_after.ensures c.in_ok-push_some.ensures

pub returns : goal.returns
returns c =
    let each : rust.Route → _ = λ r. route_after (part_view c.args.part) (route_of r) in
    c.loop-route.invariant ∙ ap (filter_map each) (take_all c.loop-route.route-index c.args.routes.now c.loop-route-test.false)
    ∙ sym (filter_map-map (route_after (part_view c.args.part)) route_of c.args.routes.now)
