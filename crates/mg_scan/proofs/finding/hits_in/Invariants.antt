use Rattle.std.proofs.Common.{◌≡◌, ◌++◌, ◌-◌, ◌≤◌, length, vec_len}
use Rattle.mg_scan.specs.Hit.{AreHitsOf, IsHitOf, hit_rows}
use Rattle.mg_scan.specs.Way.{all_found_by}
use Rattle.mg_scan.specs.declared.hit.Hit.{Hit}
use Rattle.mg_scan.specs.Sourced.{rest_of}
use Rattle.mg_scan.proofs.finding.hits_in.Given as goal

-- the hits so far, and those that the source has still to give, are all hits
abbrev pub invariant-loop-source : goal.invariant-loop-source
invariant-loop-source l = record {
  some : length l.hits.items ≤ l.search.take;
  rows : all_found_by l.search l.shard ≡ hit_rows l.hits.items ++ rest_of l.source;
  documents : AreHitsOf l.shard l.hits.items;
  lent : (h : Hit) → IsHitOf l.source.shard.now h → IsHitOf l.shard h;
}

abbrev pub decreases-loop-source : goal.decreases-loop-source
decreases-loop-source l = l.search.take - vec_len l.hits
