use Rattle.std.proofs.Common.{◌≡◌, ◌-◌, ◌≤◌, drop, filter, map, not, string_bytes, vec_capacity, vec_len}
use Rattle.mg_revtree.specs.Revision.{run_from}
use Rattle.mg_revtree.specs.History.{has_child, links}
use Rattle.mg_revtree.specs.Tree.{AreApart, AreRanked}
use Rattle.mg_revtree.proofs.leaf_list.unleaf.Given as goal

abbrev pub invariant-loop-i : goal.invariant-loop-i
invariant-loop-i l = record {
  kept : AreRanked l.initial.leaves.items → AreApart l.initial.leaves.items → AreRanked l.leaves.items × AreApart l.leaves.items × (filter (λ x. not (has_child x.rev (links (run_from l.start (map string_bytes l.ids))))) l.initial.leaves.items ≡ filter (λ x. not (has_child x.rev (links (run_from l.pos (map string_bytes (drop (l.i - 1) l.ids)))))) l.leaves.items);
  capacity : vec_capacity l.leaves ≡ vec_capacity l.initial.leaves;
  len : vec_len l.leaves ≤ vec_len l.initial.leaves;
}
