use Rattle.std.proofs.Common.{◌-◌, ◌<◌, ◌+◌, length, take, drop, ◌≤◌}
use Rattle.mg_pages.specs.Search.{AllBelow, AllAbove}
use Rattle.mg_pages.specs.Subtree.{elements_of}
use Rattle.mg_pages.proofs.search.place.Given as goal

abbrev pub invariant-loop-low : goal.invariant-loop-low
invariant-loop-low g l = record {
  in_order : l.low ≤ l.high;
  within : l.high < length l.children;
  below : AllBelow (g.Q.Probe.against l.key) (elements_of (take l.low l.children));
  above : AllAbove (g.Q.Probe.against l.key) (elements_of (drop (l.high + 1) l.children));
}

abbrev pub decreases-loop-low : goal.decreases-loop-low
decreases-loop-low g l = l.high - l.low
