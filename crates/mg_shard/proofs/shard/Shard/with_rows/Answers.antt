use Rattle.std.proofs.Common.{List, sym, ap, ◌∙◌, subst}
use Rattle.std.specs.List.{filter_map}
use Rattle.mg_collate.specs.Row.{RowValue, row_value_order, rows_view}
use Rattle.mg_collate.specs.declared.row.Row.{Row}
use Rattle.mg_index.specs.Definition.{IndexDefinition}
use Rattle.mg_pages.specs.Order.{Ascends}
use Rattle.mg_shard.specs.Documents.{docs_of}
use Rattle.mg_shard.specs.Rows.{row_of, rows_of}
use Rattle.mg_shard.proofs.Rows.{at_most_once, sorted_ascends}
use Rattle.mg_shard.proofs.shard.Shard.with_rows.Goals as goal

pub pages_of_rows-requires : goal.pages_of_rows-requires
pages_of_rows-requires c =
    let ds = c.args.self.now.documents in
    let columns = c.args.definition.now.columns in
    subst (λ (rows : List Row). Ascends row_value_order (rows_view rows)) (sym c.deref.ensures.value)
    (sorted_ascends (filter_map (row_of columns) (docs_of ds)) (rows_view c.args.rows.items) c.requires (λ z. at_most_once columns z ds))

pub with-requires : goal.with-requires
with-requires c =
    c.in_ok-rows.ensures ∙ ap rows_view c.deref.ensures.value ∙ c.requires
    ∙ ap (λ (d : IndexDefinition). rows_of d.columns (docs_of c.args.self.now.documents)) (sym c.in_ok-copy.ensures)
