use Rattle.std.proofs.Common.{◌∙◌, Some, ap, option_map}
use Rattle.mg_collate.specs.Row.{RowValue, row_value_order}
use Rattle.mg_pages.specs.Reading.{past}
use Rattle.mg_shard.proofs.shard.Shard.rows_after.Goals as goal

pub returns-in-Some : goal.returns-in-Some
returns-in-Some c =
    let f = past {T = RowValue} c.args.direction (row_value_order c.args.row.now) in
    ap Some c.past.ensures ∙ ap (option_map f) c.in-Some.ensures

pub returns-in-None : goal.returns-in-None
returns-in-None c = let f = past {T = RowValue} c.args.direction (row_value_order c.args.row.now) in ap (option_map f) c.in-None.ensures
