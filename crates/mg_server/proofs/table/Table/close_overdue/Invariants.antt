use Rattle.std.proofs.Common.{◌≡◌, ℕ, ◌<◌, ◌≤◌}
use Rattle.slab.specs.Slab.{get}
use Rattle.mg_server.specs.Closing.{unless_overdue}
use Rattle.mg_server.proofs.table.Table.close_overdue.Given as goal

-- so far, the connections below this key were closed whose time is over
abbrev pub invariant-loop-index : goal.invariant-loop-index
invariant-loop-index g l = record {
  below : (k : ℕ) → k < l.index → get l.self.entries k ≡ unless_overdue l.now (get l.fn.self.entries k);
  above : (k : ℕ) → l.index ≤ k → get l.self.entries k ≡ get l.fn.self.entries k;
  queue : l.self.queue.items ≡ l.fn.self.queue.items;
}
