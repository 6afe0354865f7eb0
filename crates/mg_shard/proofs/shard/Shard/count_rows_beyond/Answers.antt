use Rattle.std.proofs.Common.{◌∙◌, List, Some, ap, length, option_map}
use Rattle.mg_collate.specs.Row.{RowValue}
use Rattle.mg_pages.specs.Reading.{beyond}
use Rattle.mg_shard.proofs.shard.Shard.count_rows_beyond.Goals as goal

pub returns-in-Some : goal.returns-in-Some
returns-in-Some g c =
    let f = λ (rows : List RowValue). length (beyond c.args.direction (g.Q.Probe.against c.args.place.now) rows) in
    ap Some c.count_beyond.ensures ∙ ap (option_map f) c.in-Some.ensures

pub returns-in-None : goal.returns-in-None
returns-in-None g c =
    let f = λ (rows : List RowValue). length (beyond c.args.direction (g.Q.Probe.against c.args.place.now) rows) in
    ap (option_map f) c.in-None.ensures
