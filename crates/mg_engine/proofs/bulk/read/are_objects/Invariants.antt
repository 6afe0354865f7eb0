use Rattle.std.proofs.Common.{◌≡◌}
use Rattle.mg_value.proofs.Items.{items_past}
use Rattle.mg_engine.specs.Bulk.{are_objects}
use Rattle.mg_engine.proofs.bulk.read.are_objects.Given as goal

abbrev pub invariant-loop-index : goal.invariant-loop-index
invariant-loop-index l = are_objects l.documents ≡ are_objects (items_past l.index l.documents)
