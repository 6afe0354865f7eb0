use Rattle.std.proofs.Common.{arith, option_map}
use Rattle.mg_scan.specs.Sourced.{IsSourceOf, asked}
use Rattle.mg_scan.proofs.Sources.{sources_more}
use Rattle.mg_scan.proofs.pulling.sources_of.Goals as goal

pub loop-i-preserved : goal.loop-i-preserved
loop-i-preserved c =
    rw c.in_ok-push.ensures.items (sources_more (IsSourceOf c.args.search (asked (option_map (λ n. n.now) c.args.selector))) c.args.shards.now c.loop-i.sources.items c.loop-i.i c.index-shards-i.result c.deref-shard.result.now c.source_of.result (omega arith) c.index-shards-i.is c.deref-shard.ensures c.loop-i.invariant c.source_of.ensures)
