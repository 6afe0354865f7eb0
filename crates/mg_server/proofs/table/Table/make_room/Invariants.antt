use Rattle.std.proofs.Common.{◌≡◌}
use Rattle.slab.specs.Slab.{slab_len}
use Rattle.mg_server.specs.Closing.{Closes}
use Rattle.mg_server.proofs.table.Table.make_room.Given as goal

abbrev pub decreases-loop-self : goal.decreases-loop-self
decreases-loop-self g l = slab_len l.self.entries

-- so far, connections were closed for want of room
abbrev pub invariant-loop-self : goal.invariant-loop-self
invariant-loop-self g l = record {
  closes : Closes l.wanted l.fn.self.entries l.self.entries;
  queue : l.self.queue.items ≡ l.fn.self.queue.items;
}
