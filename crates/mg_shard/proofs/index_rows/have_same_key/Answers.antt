use Rattle.std.proofs.Common.{◌≡◌, ◌+◌, List, [], ◌∷◌, Option, drop, option_and_then, option_map, sym, ap, ap₂, ◌∙◌}
use Rattle.std.proofs.Math.ListN.{drop_of_length-le}
use Rattle.mg_index.specs.Definition.{Steps}
use Rattle.mg_path.specs.Part.{part_of}
use Rattle.mg_value.specs.Value.{Items, Value, item}
use Rattle.mg_shard.specs.Rows.{row_key}
use Rattle.mg_shard.proofs.Keyed.{row_key-more}
use Rattle.mg_shard.proofs.Keys.{drop_item}
use Rattle.mg_shard.proofs.index_rows.have_same_key.Goals as goal

pub loop-column-preserved : goal.loop-column-preserved
loop-column-preserved c = λ rest.
    let l = c.loop-column in
    let form = c.args.form.now in
    let other = c.args.other.now in
    let column = c.column-item.result in
    let more = drop (l.column-index + 1) c.args.columns.now in
    let step : drop l.column-index c.args.columns.now ≡ column ∷ more = drop_item c.args.columns.now l.column-index column c.loop-column-test.true c.column-item.is in
    let parts : part_of column form ≡ part_of column other =
    sym c.get.ensures ∙ c.are_same.ensures c.if-not-are_same.false ∙ c.get-in-loop-column.ensures in
    l.invariant (ap (λ (cs : List Steps). row_key cs form) step ∙ row_key-more column more form
    ∙ ap₂ (λ (o : Option Value) (k : Option Items). option_and_then (λ part. option_map (item part) k) o) parts rest
    ∙ sym (row_key-more column more other) ∙ sym (ap (λ (cs : List Steps). row_key cs other) step))

pub returns : goal.returns
returns c = λ yes.
    let l = c.loop-column in
    let none : drop l.column-index c.args.columns.now ≡ [] = drop_of_length-le c.args.columns.now c.loop-column-test.false in
    l.invariant (ap (λ (cs : List Steps). row_key cs c.args.form.now) none ∙ sym (ap (λ (cs : List Steps). row_key cs c.args.other.now) none))
