use Rattle.std.proofs.Common.{length}
use Rattle.mg_scan.specs.Way.{begin_at}
use Rattle.mg_scan.proofs.AddedUp.{counts, counts_none}
use Rattle.mg_scan.proofs.counting.count_upcoming_rows.Goals as goal
use Rattle.mg_shard.specs.Shard.{rows_at}
use Rattle.mg_pages.specs.Reading.{beyond}

pub returns-in-Some : goal.returns-in-Some
returns-in-Some c =
    let s = c.args.search in
    counts (λ rows. length (beyond s.direction (begin_at s) rows)) (rows_at c.args.index.ddoc.now c.args.index.name.now c.args.shard.now) c.in-Some.count c.in-Some.ensures

pub returns-in-None : goal.returns-in-None
returns-in-None c =
    let s = c.args.search in
    counts_none (λ rows. length (beyond s.direction (begin_at s) rows)) (rows_at c.args.index.ddoc.now c.args.index.name.now c.args.shard.now) c.in-None.ensures
