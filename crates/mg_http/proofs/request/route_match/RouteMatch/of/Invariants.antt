use Rattle.std.proofs.Common.{◌≡◌, fold}
use Rattle.mg_http.specs.RouteViews.{match_in}
use Rattle.mg_http.specs.Routes.{segments_of}
use Rattle.mg_http.specs.Segments.{segments_left}
use Rattle.mg_http.specs.Walk.{enter, match_of}
use Rattle.mg_http.proofs.request.route_match.RouteMatch.of.Given as goal

abbrev pub invariant-loop-segment : goal.invariant-loop-segment
invariant-loop-segment l = fold enter (match_in l.matched) (segments_left l.segment-iterator) ≡ match_of (segments_of l.path)
