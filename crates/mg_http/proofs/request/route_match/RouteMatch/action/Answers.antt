use Rattle.std.proofs.Common.{Option, sym, ap, ◌∙◌, rules, Bor}
use Rattle.std.proofs.Common.{tests}
use Rattle.std.specs.Option.{option_map}
use Rattle.std.specs.Cow.{cow_slice_items}
use Rattle.std.proofs.lemmas.Iterator.{YieldsList-from_slice}
use Rattle.std.proofs.lemmas.Iterator.Search.{find_from_yields_List}
use Rattle.mg_http.specs.declared.request.routes.Route as rust
use Rattle.mg_http.specs.RouteViews.{route_of}
use Rattle.mg_http.specs.Routes.{Route}
use Rattle.mg_http.specs.Walk.{ends_with_method}
use Rattle.mg_http.proofs.ListLemmas.{find_map}
use Rattle.mg_http.proofs.request.route_match.RouteMatch.action.Goals.{After-find}
use Rattle.mg_http.proofs.request.route_match.RouteMatch.action.Goals as goal

pub returns-in_err-route : goal.returns-in_err-route
returns-in_err-route c =
    let routes = cow_slice_items c.args.self.now.routes in
    let found = find_from_yields_List (λ (r : rust.Route). ends_with_method c.args.method.now (route_of r)) _ _ c.find.result c.find.ensures.ran (YieldsList-from_slice routes (c.iter.ensures.rest ∙ c.deref.ensures.value)) (λ x b q k. search (rules, tests)) in
    let shown = sym (find_map route_of (ends_with_method c.args.method.now) routes) ∙ ap (option_map route_of) (sym found) in
    let none = shown ∙ ap (λ (o : Option (Bor rust.Route)). option_map route_of (option_map (λ (b : Bor rust.Route). b.now) o)) c.in_err-route.was in
    c.from_residual.ensures ∙ sym (ap (option_map (λ (r : Route). r.action)) none)

pub returns : goal.returns
returns c =
    let routes = cow_slice_items c.args.self.now.routes in
    let found = find_from_yields_List (λ (r : rust.Route). ends_with_method c.args.method.now (route_of r)) _ _ c.find.result c.find.ensures.ran (YieldsList-from_slice routes (c.iter.ensures.rest ∙ c.deref.ensures.value)) (λ x b q k. search (rules, tests)) in
    let shown = sym (find_map route_of (ends_with_method c.args.method.now) routes) ∙ ap (option_map route_of) (sym found) in
    let some = shown ∙ ap (λ (o : Option (Bor rust.Route)). option_map route_of (option_map (λ (b : Bor rust.Route). b.now) o)) c.in_ok-route.was in
    sym (ap (option_map (λ (r : Route). r.action)) some)
