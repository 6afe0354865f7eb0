use Rattle.std.proofs.Common.{◌≡◌, Some, drop}
use Rattle.json.specs.Value.{members_view as tree_members}
use Rattle.serde_json.specs.Data as parsed
use Rattle.serde_json.specs.Read.{of_members}
use Rattle.mg_packed.specs.Sorted.{sorted_data}
use Rattle.mg_packed.proofs.tree.sort.Given as goal

-- reading all members is reading those that are left, with the data of those sorted so far
abbrev pub invariant-loop-member : goal.invariant-loop-member
invariant-loop-member l =
    (ds : parsed.Members) → sorted_data l.sorted.entries ≡ Some ds
    → of_members (tree_members l.members) parsed.no_members ≡ of_members (tree_members (drop l.member-index l.members)) ds
