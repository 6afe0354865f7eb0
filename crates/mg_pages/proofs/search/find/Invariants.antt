use Rattle.std.proofs.Common.{◌-◌, ◌≤◌, length, take, drop}
use Rattle.mg_pages.specs.Search.{AllBelow, AllAbove}
use Rattle.mg_pages.proofs.search.find.Given as goal

abbrev pub invariant-loop-low : goal.invariant-loop-low
invariant-loop-low g l = record {
  in_order : l.low ≤ l.high;
  within : l.high ≤ length l.elements;
  below : AllBelow (g.Q.Probe.against l.key) (take l.low l.elements);
  above : AllAbove (g.Q.Probe.against l.key) (drop l.high l.elements);
}

abbrev pub decreases-loop-low : goal.decreases-loop-low
decreases-loop-low g l = l.high - l.low
