use Rattle.std.proofs.Common.{◌≡◌, ◌-◌, ◌++◌, map}
use Rattle.mg_value.specs.Value.{text}
use Rattle.mg_value.specs.View.{view}
use Rattle.mg_face.specs.Ids.{id_list}
use Rattle.mg_face.proofs.ids.id_list.Given as goal

-- the ids so far, followed by those from here on, are all ids
abbrev pub invariant-loop : goal.invariant-loop
invariant-loop l = map text (id_list l.first l.count) ≡ map view l.found.items ++ map text (id_list l.number (l.count - l.counter))
