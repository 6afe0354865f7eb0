use Rattle.std.proofs.Common.{◌≡◌, length, option_map}
use Rattle.mg_scan.specs.RangeEnd.{AreBeforeEnd, EndsOnce}
use Rattle.mg_scan.specs.Kept.{AreServed}
use Rattle.mg_scan.specs.Sourced.{asked, with_selector}
use Rattle.mg_scan.specs.Way.{walked_all_by}
use Rattle.mg_scan.proofs.finding.next_of_rows.Given as goal

-- nothing is found in the rows read so far
abbrev pub invariant-loop-row : goal.invariant-loop-row
invariant-loop-row l =
    let s = with_selector (asked (option_map (λ n. n.now) l.selector)) l.search in
    record {
      rows : walked_all_by s l.shard.documents l.fn.rows ≡ walked_all_by s l.shard.documents l.rows;
      ordered : EndsOnce l.search l.rows;
      sure : AreBeforeEnd l.search l.rows l.range_end.sure;
      served : AreServed l.shard.documents l.rows;
    }

abbrev pub decreases-loop-row : goal.decreases-loop-row
decreases-loop-row l = length l.rows
