use Rattle.std.proofs.Common.{◌≡◌}
use Rattle.std.specs.FinMap.{insert}
use Rattle.std.specs.List.{AllByRecursion}
use Rattle.mg_shard.specs.Documents.{id_bytes, kept_of, kept_documents}
use Rattle.mg_shard.specs.Index.{HasRows, definitions_of}
use Rattle.mg_shard.proofs.Catalogued.{MendedBelow}
use Rattle.mg_shard.proofs.index_list.mend_all.Given as goal

-- the indexes so far are mended
abbrev pub invariant-loop-i : goal.invariant-loop-i
invariant-loop-i l = record {
  definitions : definitions_of l.indexes ≡ definitions_of l.fn.indexes;
  mended : AllByRecursion (HasRows (kept_documents l.documents)) l.fn.indexes
      → MendedBelow (kept_documents l.documents) (insert (kept_documents l.documents) (id_bytes l.document) (kept_of l.document)) l.i l.indexes;
}
