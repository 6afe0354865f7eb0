use Rattle.std.proofs.Common.{◌≡◌}
use Rattle.mg_value.proofs.Items.{items_past}
use Rattle.mg_doc.specs.WellFormed.{are_ids}
use Rattle.mg_doc.proofs.fault.are_ids.Given as goal

-- the result for all is the result for what is left
abbrev pub invariant-loop-index : goal.invariant-loop-index
invariant-loop-index l = are_ids l.ids ≡ are_ids (items_past l.index l.ids)
