use Rattle.std.proofs.Common.{option_map, refl}
use Rattle.mg_scan.specs.Found.{target_columns}
use Rattle.mg_scan.specs.Sourced.{asked}
use Rattle.mg_scan.specs.RangeEnd.{index_rows}
use Rattle.mg_scan.proofs.Begun.{begun_kept, begun_with}
use Rattle.mg_scan.proofs.Ends.{before_none, begun_ends}
use Rattle.mg_scan.proofs.finding.source_of.Goals as goal

pub invariant_of-result : goal.invariant_of-result
invariant_of-result c =
    let s = c.args.search in
    let shard = c.args.shard.now in
    let at = target_columns s.target shard.definitions in
    record {
      ordered = begun_ends at s shard c.unread_of.result c.unread_of.ensures;
      sure = before_none s (index_rows c.unread_of.result) c.unknown.result.sure c.unknown.ensures;
      kept = begun_kept at s shard c.unread_of.result c.unread_of.ensures;
    }

pub returns : goal.returns
returns c =
    let s = c.args.search in
    let shard = c.args.shard.now in
    record { same_search = refl; same_shard = refl; asks = refl; rows = begun_with (target_columns s.target shard.definitions) s shard c.unread_of.result c.unread_of.ensures (asked (option_map (λ n. n.now) c.args.selector)) }
