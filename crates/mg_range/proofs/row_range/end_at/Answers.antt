use Rattle.std.proofs.Common.{◌≡◌, [], map, option_map, ap, ◌∙◌}
use Rattle.mg_value.specs.Value.{Items}
use Rattle.mg_value.specs.View.{items_view, view}
use Rattle.mg_range.specs.SpanEnds.{end_values}
use Rattle.mg_range.specs.View.{limit_view}
use Rattle.mg_rows.specs.Laws.{joined_items}
use Rattle.mg_range.proofs.Pushed.{end_joined}
use Rattle.mg_range.proofs.row_range.end_at.Goals as goal

pub returns : goal.returns
returns c =
    let equal = map view c.args.equal.now in
    let limit = option_map (λ l. limit_view l.now) c.args.limit in
    let fixed : c.push_all.new.key ≡ items_view c.args.equal.now = c.in_ok-push_all.ensures ∙ ap (λ (k : Items). joined_items k (items_view c.args.equal.now)) c.new-key.ensures in
    c.in_ok-into_bound.ensures
    ∙ ap (λ (k : Items). (c.args.edge, k)) (c.in_ok-push_limit.ensures ∙ ap (λ (k : Items). joined_items k (end_values [] limit)) fixed ∙ end_joined equal limit)
