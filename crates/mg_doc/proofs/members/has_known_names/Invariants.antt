use Rattle.std.proofs.Common.{◌≡◌}
use Rattle.mg_packed.specs.Walk.{members_past}
use Rattle.mg_doc.specs.Document.{has_known_names}
use Rattle.mg_doc.proofs.members.has_known_names.Given as goal

-- the result for all is the result for what is left
abbrev pub invariant-loop-index : goal.invariant-loop-index
invariant-loop-index l = has_known_names l.members ≡ has_known_names (members_past l.index l.members)
