use Rattle.std.proofs.Common.{◌≡◌}
use Rattle.mg_value.proofs.Items.{items_past}
use Rattle.mg_face.specs.Ids.{lack_ids}
use Rattle.mg_face.proofs.ids.lack_ids.Given as goal

abbrev pub invariant-loop-index : goal.invariant-loop-index
invariant-loop-index l = lack_ids l.documents ≡ lack_ids (items_past l.index l.documents)
