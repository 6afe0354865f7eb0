use Rattle.std.proofs.Common.{nat_le, arith}
use Rattle.std.specs.List.{sum_by}
use Rattle.mg_shard.specs.Shard.{shards_view}
use Rattle.mg_scan.specs.Search.{after_of}
use Rattle.mg_scan.specs.Upcoming.{count_upcoming}
use Rattle.mg_scan.proofs.AddedUp.{ended, on, over}
use Rattle.mg_scan.proofs.counting.reads_at_most.Goals as goal

pub returns : goal.returns
returns c =
    let s = c.args.search in
    let f = count_upcoming s.target s.range.now (after_of s) s.direction in
    let shards = c.args.shards.now in
    let l = c.loop-i in
    ended f shards l.i (nat_le (sum_by f (shards_view shards)) c.args.most) l.left l.invariant (omega arith)

pub loop-i-preserved : goal.loop-i-preserved
loop-i-preserved c =
    let s = c.args.search in
    let f = count_upcoming s.target s.range.now (after_of s) s.direction in
    let shards = c.args.shards.now in
    let l = c.loop-i in
    on f shards l.i (nat_le (sum_by f (shards_view shards)) c.args.most) l.left l.invariant c.index-shards-i.result c.deref-shard.result.now c.count_upcoming-count.result
    (omega arith) c.index-shards-i.is c.deref-shard.ensures c.count_upcoming-count.ensures (omega arith)

pub returns-then-count-left : goal.returns-then-count-left
returns-then-count-left c =
    let s = c.args.search in
    let f = count_upcoming s.target s.range.now (after_of s) s.direction in
    let shards = c.args.shards.now in
    let l = c.loop-i in
    over f shards l.i (nat_le (sum_by f (shards_view shards)) c.args.most) l.left l.invariant c.index-shards-i.result c.deref-shard.result.now c.count_upcoming-count.result
    (omega arith) c.index-shards-i.is c.deref-shard.ensures c.count_upcoming-count.ensures (omega arith)
