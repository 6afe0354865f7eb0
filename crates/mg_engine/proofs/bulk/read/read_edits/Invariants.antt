use Rattle.std.proofs.Common.{◌≡◌, true}
use Rattle.mg_value.proofs.Items.{items_past}
use Rattle.mg_engine.specs.Bulk.{are_objects, edits_of}
use Rattle.mg_engine.proofs.Reading.{edits_before}
use Rattle.mg_engine.proofs.bulk.read.read_edits.Given as goal

-- the edits so far, followed by those of the rest, are the edits of all documents
abbrev pub invariant-loop-index : goal.invariant-loop-index
invariant-loop-index l = record {
  objects : are_objects (items_past l.index l.documents) ≡ true;
  edits : edits_of l.new_edits l.documents ≡ edits_before l.edits.items (edits_of l.new_edits (items_past l.index l.documents));
}
