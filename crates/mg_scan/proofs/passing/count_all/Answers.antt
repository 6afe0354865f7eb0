use Rattle.std.proofs.Common.{◌+◌, ap, arith}
use Rattle.mg_scan.specs.Passed.{count_upcoming_by}
use Rattle.mg_scan.proofs.AddedUp.{added, all_added}
use Rattle.mg_scan.proofs.passing.count_all.Goals as goal

pub loop-i-preserved : goal.loop-i-preserved
loop-i-preserved c =
    let l = c.loop-i in
    added (count_upcoming_by c.args.search) c.args.shards.now l.i c.index-shards-i.result c.deref-shard.result.now l.all (l.all + c.count_upcoming-count.result) _ (omega arith) c.index-shards-i.is c.deref-shard.ensures l.invariant
    (ap (λ n. l.all + n) c.count_upcoming-count.ensures)

pub returns : goal.returns
returns c =
    let l = c.loop-i in
    all_added (count_upcoming_by c.args.search) c.args.shards.now l.i l.all l.invariant (omega arith)
