use Rattle.std.proofs.Common.{drop, refl, ap, ◌∙◌}
use Rattle.mg_scan.specs.Decided.{everything}
use Rattle.mg_scan.specs.Found.{target_columns}
use Rattle.mg_scan.specs.RangeEnd.{index_rows}
use Rattle.mg_scan.proofs.AfterFirst.{kept_after, rows_left_after}
use Rattle.mg_scan.proofs.Begun.{begun_kept, begun_with}
use Rattle.mg_scan.proofs.Ends.{before_none, begun_ends, left_ends_after}
use Rattle.mg_scan.proofs.finding.source_after.Goals as goal

pub invariant_of-source : goal.invariant_of-source
invariant_of-source c =
    let s = c.args.search in
    let shard = c.args.shard.now in
    let at = target_columns s.target shard.definitions in
    let all = c.unread_of.result in
    let left = c.unread_after-unread.result.0 in
    let n = c.unread_after-unread.result.1 in
    record {
      ordered = left_ends_after s n all left c.unread_after-unread.ensures.after (begun_ends at s shard all c.unread_of.ensures);
      sure = before_none s (index_rows left) c.unknown.result.sure c.unknown.ensures;
      kept = kept_after shard n all left c.unread_after-unread.ensures.after (begun_kept at s shard all c.unread_of.ensures);
    }

pub returns-clause-source : goal.returns-clause-source
returns-clause-source c =
    let s = c.args.search in
    let shard = c.args.shard.now in
    let at = target_columns s.target shard.definitions in
    let all = c.unread_of.result in
    let left = c.unread_after-unread.result.0 in
    let n = c.unread_after-unread.result.1 in
    record {
      same_search = refl;
      same_shard = refl;
      asks = refl;
      rows = rows_left_after at s shard n all left c.unread_of.ensures c.unread_after-unread.ensures.after ∙ ap (drop n) (begun_with at s shard all c.unread_of.ensures everything);
    }
