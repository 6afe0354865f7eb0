use Rattle.std.proofs.Common.{◌≡◌, map, take, string_bytes}
use Rattle.mg_value.specs.View.{view}
use Rattle.mg_index.specs.Definition.{field_value}
use Rattle.mg_index.proofs.listing.fields_json.Given as goal

-- the fields of the texts so far
abbrev pub invariant-loop-text : goal.invariant-loop-text
invariant-loop-text l = map view l.fields.items ≡ map (field_value l.direction) (map string_bytes (take l.text-index l.texts))
