use Rattle.std.proofs.Common.{map, ◌∙◌}
use Rattle.mg_scan.specs.Built.{with_index}
use Rattle.mg_shard.specs.Shard.{shards_view}
use Rattle.mg_scan.proofs.Builds.{built-more}
use Rattle.mg_scan.proofs.building.index_shards.Goals as goal

pub loop-i-preserved : goal.loop-i-preserved
loop-i-preserved c =
    let i = c.loop-i.invariant in (
      c.take_rows-rows.ensures.given c.args.definition.now (shards_view c.args.shards.now) i.0,
      c.take_rows-rows.ensures.len ∙ i.1,
      rw c.in_ok-push.ensures.items (built-more (map (with_index c.args.definition.now) (shards_view c.args.shards.now)) c.loop-i.built.items c.loop-i.i c.in_ok-shard.shard i.2 c.in_ok-shard.ensures),
    )
