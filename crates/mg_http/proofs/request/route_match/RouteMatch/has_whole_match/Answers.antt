use Rattle.std.proofs.Common.{◌∙◌, rules}
use Rattle.std.proofs.Common.{tests}
use Rattle.std.proofs.lemmas.Iterator.{YieldsList-from_slice}
use Rattle.std.proofs.lemmas.Iterator.Search.{any_from_yields_List}
use Rattle.std.specs.Cow.{cow_slice_items}
use Rattle.mg_http.specs.declared.request.routes.Route as rust
use Rattle.mg_http.specs.RouteViews.{route_of}
use Rattle.mg_http.specs.Walk.{ends_here}
use Rattle.mg_http.proofs.ListLemmas.{any_map}
use Rattle.mg_http.proofs.request.route_match.RouteMatch.has_whole_match.Goals as goal

pub returns : goal.returns
returns c =
    any_from_yields_List (λ (r : rust.Route). ends_here (route_of r)) _ _ _ c.any.ensures.ran (YieldsList-from_slice (cow_slice_items c.args.self.now.routes) (c.iter.ensures.rest ∙ c.deref.ensures.value)) (λ x b q k. search (rules, tests))
    ∙ any_map route_of ends_here (cow_slice_items c.args.self.now.routes)
