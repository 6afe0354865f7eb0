use Rattle.std.proofs.Common.{◌≡◌, ◌++◌, map, option_map, string_bytes}
use Rattle.mg_value.proofs.Items.{items_past}
use Rattle.mg_doc.specs.Document.{path_ids}
use Rattle.mg_doc.proofs.revisions.path_ids.Given as goal

-- the ids of all are those that were copied and then those of what is left
abbrev pub invariant-loop-index : goal.invariant-loop-index
invariant-loop-index l = path_ids l.ids ≡ option_map (λ more. map string_bytes l.texts.items ++ more) (path_ids (items_past l.index l.ids))
