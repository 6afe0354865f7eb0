use Rattle.std.proofs.Common.{◌≡◌, ◌+◌, ◌-◌, ◌≤◌, ℕ, List, drop, length, take}
use Rattle.mg_revtree.specs.History.{Link}
use Rattle.mg_revtree.specs.Tree.{AreKnownLinks}
use Rattle.mg_revtree.specs.Nodes.{links_in, NodesWithin, PartsWithin}
use Rattle.mg_revtree.specs.Room.{used}
use Rattle.mg_revtree.proofs.Rooms.{Goes}
use Rattle.mg_revtree.proofs.links.room.join_each.Given as goal

abbrev pub invariant-loop-i : goal.invariant-loop-i
invariant-loop-i l = record {
  pos : l.pos ≡ l.start - l.i;
  room : l.room.till + (length l.parts - l.i) ≤ l.room.from;
  inside : l.room.from ≤ length l.nodes;
  goes : (ls : List Link) → AreKnownLinks (links_in l.texts (take l.known l.initial.nodes)) ls → Goes l.texts l.start l.parts l.i l.pos (used l.nodes l.room.till l.room.from) (drop l.room.from l.nodes) ls;
  within : (n : ℕ) → NodesWithin n (take l.known l.initial.nodes) → PartsWithin n l.parts → NodesWithin n (used l.nodes l.room.till l.room.from);
}
