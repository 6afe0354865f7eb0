use Rattle.std.proofs.Common.{◌∙◌, Some, ap, option_map}
use Rattle.mg_collate.specs.Row.{RowValue}
use Rattle.mg_pages.specs.Reading.{beyond}
use Rattle.mg_shard.proofs.shard.Shard.rows_beyond.Goals as goal

pub returns-in-Some : goal.returns-in-Some
returns-in-Some g c =
    let f = beyond {T = RowValue} c.args.direction (g.Q.Probe.against c.args.place.now) in
    ap Some c.beyond.ensures ∙ ap (option_map f) c.in-Some.ensures

pub returns-in-None : goal.returns-in-None
returns-in-None g c = let f = beyond {T = RowValue} c.args.direction (g.Q.Probe.against c.args.place.now) in ap (option_map f) c.in-None.ensures
