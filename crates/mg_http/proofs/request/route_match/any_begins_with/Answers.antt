use Rattle.std.proofs.Common.{◌∙◌, rules}
use Rattle.std.proofs.Common.{tests}
use Rattle.std.proofs.lemmas.Iterator.{YieldsList-from_slice}
use Rattle.std.proofs.lemmas.Iterator.Search.{any_from_yields_List}
use Rattle.mg_http.specs.declared.request.routes.Route as rust
use Rattle.mg_http.specs.RouteViews.{route_of}
use Rattle.mg_http.specs.Routes.{Route, literal}
use Rattle.mg_http.specs.Walk.{begins_with}
use Rattle.mg_http.proofs.ListLemmas.{any_map}
use Rattle.mg_http.proofs.request.route_match.any_begins_with.Goals as goal

pub returns : goal.returns
returns c =
    any_from_yields_List (λ (r : rust.Route). begins_with (literal c.args.segment.now) (route_of r).path) _ _ _ c.any.ensures.ran (YieldsList-from_slice c.args.routes.now c.iter.ensures.rest) (λ x b q k. search (rules, tests))
    ∙ any_map route_of (λ (r : Route). begins_with (literal c.args.segment.now) r.path) c.args.routes.now
