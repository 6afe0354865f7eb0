use Rattle.std.proofs.Common.{◌-◌, ◌≤◌, length}
use Rattle.mg_scan.proofs.scout.place_of.Given as goal

abbrev pub invariant-loop-low : goal.invariant-loop-low
invariant-loop-low l = record {
  halves : l.low ≤ l.high;
  within : l.high ≤ length l.scouts;
}

abbrev pub decreases-loop-low : goal.decreases-loop-low
decreases-loop-low l = l.high - l.low
