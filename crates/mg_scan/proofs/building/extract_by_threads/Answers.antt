use Rattle.std.proofs.Common.{◌∙◌, arith}
use Rattle.mg_shard.specs.Shard.{shards_view}
use Rattle.mg_scan.proofs.Builds.{rows-joined}
use Rattle.mg_scan.proofs.building.extract_by_threads.Goals as goal

pub loop-alloc-preserved : goal.loop-alloc-preserved
loop-alloc-preserved g c =
    let i = c.loop-alloc.invariant in
    let all = c.loop-alloc.all in (
      rw c.in_ok-append.ensures.items
          (rows-joined c.args.definition.now (shards_view c.args.shards.now) all.items c.in_ok-more.more.items c.len-from.result (c.len-from.ensures ∙ all.ok.0) i.0 c.in_ok-more.ensures.rows),
      omega (arith, c.in_ok-append.ensures.len, c.in_ok-more.ensures.len, c.min-count.ensures, c.len-from.ensures, i.1),
    )
