use denote.Ref.{Bor}
use Rattle.std.proofs.Common.{List, ap, ◌∙◌}
use Rattle.mg_pages.specs.Runs.{elements_view}
use Rattle.mg_shard.specs.Documents.{docs_in}
use Rattle.mg_shard.specs.Rows.{rows_of}
use Rattle.mg_shard.specs.declared.document.Document.{Document}
use Rattle.mg_shard.proofs.Rows.{rows_ascend}
use Rattle.mg_shard.proofs.shard.Shard.rows_alone.Goals as goal

pub from_sorted-requires : goal.from_sorted-requires
from_sorted-requires c =
    let columns = c.args.columns.now in
    rows_ascend columns _ c.args.self.now.documents
    (c.deref-2.ensures.value ∙ c.in_ok-rows.ensures
    ∙ ap (λ (runs : List (Bor (List Document))). rows_of columns (docs_in (elements_view runs))) c.deref.ensures.value ∙ ap (rows_of columns) c.in_ok-runs.ensures)

pub returns : goal.returns
returns c =
    let columns = c.args.columns.now in
    c.in_ok-pages.ensures ∙ c.deref-2.ensures.value ∙ c.in_ok-rows.ensures
    ∙ ap (λ (runs : List (Bor (List Document))). rows_of columns (docs_in (elements_view runs))) c.deref.ensures.value ∙ ap (rows_of columns) c.in_ok-runs.ensures
