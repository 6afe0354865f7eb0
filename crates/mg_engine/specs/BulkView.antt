-- The bulk that the code's `Bulk` stands for, and the edits that are read from it.
use Rattle.std.specs.Prelude.{Bool}
use Rattle.std.specs.declared.alloc.Global.{Global}
use Rattle.std.specs.declared.vec.Vec.{Vec}
use Rattle.mg_doc.specs.Document.{Edit}
use Rattle.mg_engine.specs.Bulk.{Bulk, BulkEdits}
use Rattle.mg_engine.specs.declared.bulk.read.Bulk as code

-- the bulk that the code's `Bulk` stands for
abbrev pub bulk_view : code.Bulk → Bulk
bulk_view b = record { new_edits = b.new_edits; documents = b.documents }

-- the edits that were read, and whether they are new
abbrev pub edits_view : Bool → Vec Edit Global → BulkEdits
edits_view new_edits edits = record { new_edits = new_edits; edits = edits.items }
