use Rattle.std.proofs.Common.{◌∙◌, ap}
use Rattle.std.proofs.lemmas.Result.{IfOk-weaker}
use Rattle.mg_http.specs.RouteViews.{match_in}
use Rattle.mg_http.specs.Routes.{segments_of}
use Rattle.mg_http.specs.Target.{query_in, request_on}
use Rattle.mg_http.specs.Walk.{request_at}
use Rattle.mg_http.proofs.WalkLemmas.{walk_asks}
use Rattle.mg_http.proofs.request.target.read_target.Goals as goal

pub returns : goal.returns
returns c =
    let db = c.args.db.now in
    let method = c.args.method.now in
    let query = query_in c.args.target.now in
    let asked =
    ap (λ q. request_at db method q (match_in c.in_ok-matched.matched)) c.split_query.ensures.query
    ∙ ap (request_at db method query) c.in_ok-matched.ensures
    ∙ walk_asks db method query (segments_of c.split_query.result.0.now)
    ∙ ap (λ path. request_on db method query (segments_of path)) c.split_query.ensures.path in
    IfOk-weaker c.request_at.result _ _ (λ t e. e ∙ asked) c.request_at.ensures
