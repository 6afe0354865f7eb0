-- The row of a hit, lent by a shard.
use Rattle.mg_collate.specs.Row.{RowValue}
use Rattle.mg_scan.specs.Walked.{id_row}
use Rattle.mg_scan.specs.declared.hit_row.HitRow.{HitRow}
use Rattle.mg_scan.specs.declared.hit_row.HitRow.TheVariants.{Bytes, Id}

-- the row that is lent: of a defined index, or of an id in the index of all documents
abbrev pub hit_row_view : HitRow → RowValue
hit_row_view (Bytes row) = row.now
hit_row_view (Id id) = id_row id.now
