use Rattle.std.proofs.Common.{◌≡◌, List, Some, option_map, ap, ap₂, sym, ◌∙◌, subst}
use Rattle.std.specs.Arc.{arc_value}
use Rattle.std.specs.FinMap.{get}
use Rattle.mg_collate.specs.Row.{RowValue, row_value_order}
use Rattle.mg_index.specs.Definition.{Steps}
use Rattle.mg_pages.specs.Order.{Ascends}
use Rattle.mg_shard.specs.Mended.{HaveSameRow, own_row, with_row, without_row}
use Rattle.mg_shard.proofs.Rows.{ascends_rises, own_at, row_at, rows_left, rows_mended}
use Rattle.mg_shard.proofs.index_rows.mend_rows.Goals as goal

pub returns : goal.returns
returns c = λ ds d before after were.
    let columns = c.args.definition.now.columns in
    let id = c.args.id.now in
    let old_row : c.in_ok-old_row.old_row ≡ row_at columns id (get ds id) =
    c.in_ok-old_row.ensures ∙ ap (λ cs. own_row cs id (option_map (λ v. v.now) c.args.before)) c.columns-2.ensures
    ∙ ap (own_row columns id) before ∙ own_at columns id (get ds id) in
    let new_row : c.in_ok-new_row.new_row ≡ row_at columns id (Some d) =
    c.in_ok-new_row.ensures ∙ ap (λ cs. own_row cs id (option_map (λ v. v.now) c.args.after)) c.columns-3.ensures
    ∙ ap (own_row columns id) after in
    let rows = arc_value c.args.rows.now in
    let new = arc_value c.change_shared.new.rows in
    rows_mended columns ds id d rows new were (ascends_rises new (subst (λ (rs : List RowValue). Ascends row_value_order rs) c.deref-rows.ensures c.ascends.ensures))
    (c.in_ok-change_shared.ensures ∙ ap₂ (λ n rs. with_row n rs) new_row (ap (λ o. without_row o rows) old_row))

pub returns-then-have_same_row : goal.returns-then-have_same_row
returns-then-have_same_row c = λ ds d before after were.
    let columns = c.args.definition.now.columns in
    let id = c.args.id.now in
    let same : HaveSameRow columns (option_map (λ v. v.now) c.args.before) (option_map (λ v. v.now) c.args.after) =
    subst (λ (cs : List Steps). HaveSameRow cs (option_map (λ v. v.now) c.args.before) (option_map (λ v. v.now) c.args.after))
    c.columns.ensures (c.have_same_row.ensures c.if-have_same_row.true) in
    rows_left columns ds id d (arc_value c.args.rows.now) were
    (sym (own_at columns id (get ds id)) ∙ ap (own_row columns id) (sym before) ∙ same id ∙ ap (own_row columns id) after)
