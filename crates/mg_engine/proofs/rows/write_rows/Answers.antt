use Rattle.std.proofs.Common.{◌++◌, ◌∷◌, [], ap, map, pos, ◌∙◌}
use Rattle.mg_value.specs.Text.{compact}
use Rattle.mg_value.specs.Value.{list, whole}
use Rattle.mg_value.specs.View.{items_of}
use Rattle.mg_query.specs.Paged.{shown_view}
use Rattle.mg_engine.specs.Questions.{listed_row}
use Rattle.mg_engine.proofs.RowTexts.{before_offset, before_rows, before_total, line_parts}
use Rattle.mg_engine.proofs.rows.write_rows.Goals as goal

pub returns : goal.returns
returns c =
    let rows = map (listed_row c.args.documents) (map shown_view c.args.docs.now) in
    let begun = c.in_ok-extend_from_slice.ensures.items ∙ ap (λ t. t ++ before_offset) c.in_ok-out.ensures.items in
    let offset = c.in_ok-out-2.ensures ∙ ap (λ t. t ++ compact (whole (pos c.args.offset))) begun in
    let shown = c.in_ok-out-3.ensures ∙ ap (λ t. t ++ compact (list (items_of rows))) (c.in_ok-extend_from_slice-2.ensures.items ∙ ap (λ t. t ++ before_rows) offset) in
    let total = c.in_ok-out-4.ensures ∙ ap (λ t. t ++ compact (whole (pos c.args.total))) (c.in_ok-extend_from_slice-3.ensures.items ∙ ap (λ t. t ++ before_total) shown) in
    c.in_ok-extend_from_slice-4.ensures.items ∙ ap (λ t. t ++ 125 ∷ 10 ∷ []) total ∙ line_parts c.args.offset c.args.total rows
