use Rattle.std.proofs.Common.{◌≤◌, List, [], ◌∷◌, ◌++◌, length, take, arith, sym, ap, ◌∙◌}
use Rattle.std.proofs.lemmas.List.{append-nil, take_all}
use Rattle.std.proofs.lemmas.List.Concat.{flat_map-append}
use Rattle.std.proofs.lemmas.List.Elements.{filter_map-append}
use Rattle.mg_collate.specs.Row.{RowValue, row_value_order}
use Rattle.mg_collate.specs.Sorted.{sorted}
use Rattle.mg_pages.proofs.Sorted.{take_one_more}
use Rattle.mg_pages.specs.Runs.{elements_view}
use Rattle.mg_shard.specs.Extracted.{document_row, rows_in}
use Rattle.mg_shard.specs.declared.document.Document.{Document}
use Rattle.mg_shard.proofs.Extracting.{Run, rows_served}
use Rattle.mg_shard.proofs.extracted.rows_in_order.Goals as goal

pub loop-run-preserved : goal.loop-run-preserved
loop-run-preserved c =
    let xs : List Run = c.args.runs.now in
    let i = c.loop-run.run-index in
    let run : Run = c.run-item.result in
    let columns = c.args.columns.now in
    c.in_ok-add_rows.ensures
    ∙ ap (λ (us : List RowValue). us ++ rows_in columns run.now) c.loop-run.invariant
    ∙ sym (filter_map-append (document_row columns) (elements_view (take i xs)) run.now)
    ∙ ap (rows_in columns)
    (ap (λ (ds : List Document). elements_view (take i xs) ++ ds) (sym (append-nil run.now)) ∙ sym (flat_map-append (λ (r : Run). r.now) (take i xs) (run ∷ []))
    ∙ ap elements_view (sym (take_one_more xs i run c.loop-run-test.true c.run-item.is)))

pub returns : goal.returns
returns c =
    let xs : List Run = c.args.runs.now in
    let over : length xs ≤ c.loop-run.run-index = omega arith in
    c.sorted_rows.ensures
    ∙ ap (sorted row_value_order) (c.loop-run.invariant
    ∙ ap (λ (runs : List Run). rows_in c.args.columns.now (elements_view runs)) (take_all c.loop-run.run-index xs over)
    ∙ rows_served c.args.columns.now (elements_view xs))
