use Rattle.std.proofs.Common.{◌≡◌, length}
use Rattle.std.specs.List.{AllByRecursion}
use Rattle.mg_shard.specs.Documents.{kept_documents}
use Rattle.mg_shard.specs.Draft.{TouchedStandFor, touched_of}
use Rattle.mg_shard.specs.Histories.{Histories}
use Rattle.mg_shard.specs.Index.{HasRows, definitions_of}
use Rattle.mg_shard.proofs.draft.keep_all.Given as goal

-- the trees that are left and the documents kept so far stand for the histories, and the indexes have these documents' rows
abbrev pub invariant-loop-id : goal.invariant-loop-id
invariant-loop-id l = record {
  stands : (hs : Histories) → TouchedStandFor (kept_documents l.fn.documents) (touched_of l.fn.touched.entries) hs → TouchedStandFor (kept_documents l.documents) (touched_of l.touched.entries) hs;
  definitions : definitions_of l.indexes.items ≡ definitions_of l.fn.indexes.items;
  rows : AllByRecursion (HasRows (kept_documents l.fn.documents)) l.fn.indexes.items → AllByRecursion (HasRows (kept_documents l.documents)) l.indexes.items;
}

abbrev pub decreases-loop-id : goal.decreases-loop-id
decreases-loop-id l = length l.touched.entries
