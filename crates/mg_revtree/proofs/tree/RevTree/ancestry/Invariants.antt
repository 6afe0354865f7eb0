use Rattle.std.proofs.Common.{◌≡◌, ◌++◌, map, string_bytes}
use Rattle.mg_revtree.specs.Ancestry.{ancestry, lineage}
use Rattle.mg_revtree.specs.History.{Paths, all_links}
use Rattle.mg_revtree.specs.Tree.{StandsFor}
use Rattle.mg_revtree.proofs.tree.RevTree.ancestry.Given as goal

-- the ids so far, with those of the revision that was reached and of its ancestors, are all ids
abbrev pub invariant-loop-pos : goal.invariant-loop-pos
invariant-loop-pos l = (h : Paths) → StandsFor l.self h → map (λ r. r.1) (ancestry h l.rev) ≡ map string_bytes l.ids.items ++ map (λ r. r.1) (lineage (all_links h) l.pos (l.pos, l.id))

abbrev pub decreases-loop-pos : goal.decreases-loop-pos
decreases-loop-pos l = l.pos
