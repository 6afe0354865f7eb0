use Rattle.std.proofs.Common.{◌≡◌, length, map, string_bytes, take}
use Rattle.mg_revtree.specs.Tree.{AreSorted}
use Rattle.mg_revtree.specs.Nodes.{link_in, text_of_part, NodesWithin, PartsWithin, IsExtendedBy}
use Rattle.mg_revtree.proofs.links.parts.parts_for.Given as goal

abbrev pub invariant-loop-id : goal.invariant-loop-id
invariant-loop-id l = record {
  grows : IsExtendedBy l.initial.texts.items l.texts.items;
  within : NodesWithin (length l.initial.texts.items) l.nodes → PartsWithin (length l.texts.items) l.parts.items;
  parts : NodesWithin (length l.initial.texts.items) l.nodes → AreSorted (map (link_in l.initial.texts.items) l.nodes) → map (text_of_part l.texts.items) l.parts.items ≡ map string_bytes (take l.id-index l.ids);
  len : length l.parts.items ≡ l.id-index;
}
