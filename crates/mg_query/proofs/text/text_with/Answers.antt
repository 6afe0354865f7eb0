use Rattle.std.proofs.Common.{◌++◌, [], ◌∷◌, map, ap, ◌∙◌}
use Rattle.json.specs.Print.{quoted}
use Rattle.mg_value.specs.Text.{compact}
use Rattle.mg_value.specs.Value.{list}
use Rattle.mg_value.specs.View.{items_of}
use Rattle.mg_query.specs.Page.{shown_of}
use Rattle.mg_query.specs.View.{query_view}
use Rattle.mg_query.proofs.Showing.{before_docs, before_mark, page_parts}
use Rattle.mg_query.proofs.text.text_with.Goals as goal

pub returns : goal.returns
returns c = λ columns cs l.
    let docs = map (shown_of (query_view c.args.query.now)) cs in
    let mark = c.args.bookmark.now in
    c.in_ok-push.ensures.items
    ∙ ap (λ t. t ++ 125 ∷ [])
    (c.in_ok-out-3.ensures columns cs l
    ∙ ap (λ t. t ++ compact (list (items_of docs)))
    (c.in_ok-extend_from_slice-2.ensures.items
    ∙ ap (λ t. t ++ before_docs) (c.in_ok-out-2.ensures ∙ ap (λ t. t ++ quoted mark) (c.in_ok-extend_from_slice.ensures.items ∙ ap (λ t. t ++ before_mark) c.in_ok-out.ensures.items))))
    ∙ page_parts mark docs
