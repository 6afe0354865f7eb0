use Rattle.std.proofs.Common.{List, [], ◌∷◌, ◌++◌, Option, take, sym, ap, ap₂, ◌∙◌}
use Rattle.std.proofs.lemmas.List.{append_assoc}
use Rattle.std.proofs.lemmas.List.Elements.{filter_map-append}
use Rattle.std.specs.List.{cons_option, filter_map}
use Rattle.mg_collate.specs.Row.{RowValue}
use Rattle.mg_pages.proofs.Sorted.{take_one_more}
use Rattle.mg_shard.specs.Extracted.{document_row}
use Rattle.mg_shard.specs.declared.document.Document.{Document}
use Rattle.mg_shard.proofs.extracted.add_rows.Goals as goal

pub loop-document-preserved : goal.loop-document-preserved
loop-document-preserved c =
    let xs = c.args.documents.now in
    let i = c.loop-document.document-index in
    let d : Document = c.document-item.result in
    let f = document_row c.args.columns.now in
    let before : List RowValue = c.args.rows.now.items in
    c.in_ok-add_row.ensures
    ∙ ap₂ (λ (us : List RowValue) (o : Option RowValue). us ++ cons_option o []) c.loop-document.invariant (c.in_ok-row.ensures ∙ ap f c.get.ensures)
    ∙ append_assoc before (filter_map f (take i xs)) (cons_option (f d) [])
    ∙ ap (λ (us : List RowValue). before ++ us)
    (sym (filter_map-append f (take i xs) (d ∷ [])) ∙ ap (filter_map f) (sym (take_one_more xs i d c.loop-document-test.true c.document-item.is)))
