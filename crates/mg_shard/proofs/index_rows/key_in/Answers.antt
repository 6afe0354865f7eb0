use Rattle.std.proofs.Common.{◌≡◌, ◌+◌, [], ◌∷◌, Some, drop, option_and_then, option_map, sym, ap, ◌∙◌}
use Rattle.std.proofs.Math.ListN.{drop_of_length-le}
use Rattle.mg_rows.specs.Laws.{joined_items}
use Rattle.mg_value.specs.Value.{Items, item}
use Rattle.mg_shard.specs.Rows.{row_key}
use Rattle.mg_shard.proofs.Keyed.{row_key-more}
use Rattle.mg_shard.proofs.Keys.{drop_item, joined-none, key_more}
use Rattle.mg_shard.proofs.index_rows.key_in.Goals as goal

pub loop-column-preserved : goal.loop-column-preserved
loop-column-preserved c =
    let l = c.loop-column in
    let form = c.args.form.now in
    let column = c.column-item.result in
    let rest = drop (l.column-index + 1) c.args.columns.now in
    let key = l.scratch in
    let step : drop l.column-index c.args.columns.now ≡ column ∷ rest = drop_item c.args.columns.now l.column-index column c.loop-column-test.true c.column-item.is in
    l.invariant ∙ ap (λ cs. option_map (joined_items key) (row_key cs form)) step
    ∙ ap (option_map (joined_items key)) (row_key-more column rest form)
    ∙ ap (λ o. option_map (joined_items key) (option_and_then (λ part. option_map (item part) (row_key rest form)) o)) (sym c.in-Some.ensures)
    ∙ key_more key c.in-Some.part (row_key rest form)
    ∙ ap (λ (xs : Items). option_map (joined_items xs) (row_key rest form)) (sym c.in_ok-push-in-Some.ensures.pushed)

pub returns : goal.returns
returns c =
    let l = c.loop-column in
    let form = c.args.form.now in
    let none : drop l.column-index c.args.columns.now ≡ [] = drop_of_length-le c.args.columns.now c.loop-column-test.false in
    sym (l.invariant ∙ ap (λ cs. option_map (joined_items l.scratch) (row_key cs form)) none ∙ ap Some (joined-none l.scratch))
