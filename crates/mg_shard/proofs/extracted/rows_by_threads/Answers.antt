use Rattle.std.proofs.Common.{List, ap, ◌∙◌, subst}
use Rattle.std.proofs.lemmas.List.Sorted.{IsPermutation-trans}
use Rattle.std.specs.List.{flat_map}
use Rattle.std.specs.List.Sorted.{IsPermutation}
use Rattle.std.specs.declared.alloc.Global.{Global}
use Rattle.std.specs.declared.vec.Vec.{Vec}
use Rattle.mg_collate.specs.Row.{RowValue, row_value_order}
use Rattle.mg_collate.specs.Sorted.{sorted}
use Rattle.mg_pages.specs.Runs.{elements_view}
use Rattle.mg_shard.specs.Extracted.{rows_in}
use Rattle.mg_shard.proofs.Extracting.{Run, rows_served}
use Rattle.mg_shard.proofs.Rows.{put_in_order}
use Rattle.mg_shard.proofs.extracted.rows_by_threads.Goals as goal

pub returns : goal.returns
returns g c =
    let columns = c.args.columns.now in
    let runs : List Run = c.args.runs.now in
    let all : List RowValue = rows_in columns (elements_view runs) in
    let rows : List RowValue = c.in_ok-rows.rows.items in
    let lists : List RowValue = flat_map (λ (list : Vec RowValue Global). list.items) c.in_ok-lists.lists.items in
    put_in_order all rows
    (IsPermutation-trans all lists rows
    (subst (λ (rs : List Run). IsPermutation (rows_in columns (elements_view rs)) lists) (ap elements_view c.deref.ensures.value ∙ c.in_ok-pieces.ensures) c.in_ok-lists.ensures)
    c.in_ok-rows.ensures.permutation)
    c.in_ok-rows.ensures.sorted
    ∙ ap (sorted row_value_order) (rows_served columns (elements_view runs))
