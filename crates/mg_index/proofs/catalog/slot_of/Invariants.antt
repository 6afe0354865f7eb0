use Rattle.std.proofs.Common.{◌≡◌, ℕ, ◌<◌, ◌≤◌, ◌-◌, Greater, Less, get_or, length}
use Rattle.mg_index.specs.Definition.{IndexDefinition}
use Rattle.mg_index.specs.Places.{name_order}
use Rattle.mg_index.proofs.catalog.slot_of.Given as goal

-- the names are above the definitions before `low`, and below those from `high` on
abbrev pub invariant-loop-low : goal.invariant-loop-low
invariant-loop-low l = record {
  in_order : l.low ≤ l.high;
  within : l.high ≤ length l.definitions;
  below : (x : IndexDefinition) (k : ℕ) → k < l.low → name_order l.ddoc l.name (get_or l.definitions k x) ≡ Greater;
  above : (x : IndexDefinition) (k : ℕ) → l.high ≤ k → k < length l.definitions → name_order l.ddoc l.name (get_or l.definitions k x) ≡ Less;
}

abbrev pub decreases-loop-low : goal.decreases-loop-low
decreases-loop-low l = l.high - l.low
