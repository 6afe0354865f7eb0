use Rattle.std.proofs.Common.{◌≡◌, List, drop, map, string_bytes}
use Rattle.mg_revtree.specs.Revision.{run_from}
use Rattle.mg_revtree.specs.History.{Link, are_known_whole, links}
use Rattle.mg_revtree.specs.Tree.{AreKnownLinks}
use Rattle.mg_revtree.proofs.links.lookup.all_known.Given as goal

abbrev pub invariant-loop-i : goal.invariant-loop-i
invariant-loop-i g l = (ls : List Link) → AreKnownLinks (g.K.LookUp.known_links l.known) ls → are_known_whole ls (links (run_from l.start (map string_bytes l.ids))) ≡ are_known_whole ls (links (run_from l.pos (map string_bytes (drop l.i l.ids))))
